-- `pack::standing::standing_end` meets its contract. The invariant: the first k fields stand from the start up to `at`.
use Rattle.pack.specs.Inner.{value_in}
use Rattle.pack.proofs.StandingLaws.{stand_more}
use Rattle.pack.proofs.standing.standing_end.Goals as goal

pub loop-k-preserved : goal.loop-k-preserved
loop-k-preserved c =
    let args = c.args in
    stand_more (value_in args.report.now args.row) args.columns.now _ _ _ _ _ _ c.loop-k-test.true c.end_of-end.ensures c.loop-k.invariant c.in_ok-at.ensures
