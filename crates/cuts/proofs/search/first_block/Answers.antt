-- `cuts::search::first_block` meets its contract.
use Rattle.std.proofs.Common.{rules, ◌≡◌}
use Rattle.cuts.specs.Look.{columns_of, passed_from}
use Rattle.cuts.proofs.TailLaws.{columns_all, found_all}
use Rattle.cuts.proofs.search.first_block.Goals as goal

pub look_near-near-requires : goal.look_near-near-requires
look_near-near-requires c =
    let e : c.map_or.result ≡ columns_of c.args.tail = search rules in
    columns_all _ _ c.args.ahead.small _ _ c.requires e

pub returns : goal.returns
returns c =
    let e : c.map_or-to.result ≡ passed_from c.args.ahead.runs.now c.pass_on-passed.result = search rules in
    found_all _ _ c.args.ahead.small _ _ _ _ _ _ c.look_near-near.ensures e c.look_far-far.ensures c.pass_on-passed.ensures
    c.tail_of.ensures c.best_of.ensures
