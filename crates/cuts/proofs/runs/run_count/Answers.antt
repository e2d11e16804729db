-- `cuts::runs::run_count` meets its contract. The invariant: the runs up to the last set that was gone through are counted.
use Rattle.std.proofs.Common.{arith, rules, ◌∙◌, refl}
use Rattle.cuts.proofs.PressLaws.{count_none, count_all, count_more, changed, changed_one}
use Rattle.cuts.proofs.runs.run_count.Goals as goal

pub returns-in_default : goal.returns-in_default
returns-in_default c = search (rules, count_none)

pub loop-set-preserved : goal.loop-set-preserved
loop-set-preserved c = (
  omega (arith, changed_one _ _ _ c.from-n.ensures, c.loop-set.invariant.0),
  count_more _ c.loop-set.before _ c.loop-set.n c.loop-set.set-index c.from-n.result c.loop-set-test.true refl (changed _ _ _ c.from-n.ensures)
      ∙ c.loop-set.invariant.1,
)

pub returns : goal.returns
returns c = count_all _ _ _ _ _ _ (search rules) c.loop-set-test.false c.loop-set.invariant.1
