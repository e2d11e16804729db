-- `cuts::tail::pass_on` meets its contract.
use Rattle.cuts.proofs.TailLaws.{passed_on, tail_known}
use Rattle.cuts.proofs.tail.pass_on.Goals as goal

pub returns : goal.returns
returns c =
    passed_on _ _ c.args.ahead.small _ (tail_known _ _ _ _ c.requires c.in_ok-tail.was) _ _ c.from.ensures c.from-2.ensures c.if-tail-first.false
