-- `comparison::first_differing` meets its contract.
use Rattle.std.proofs.Common.{sym, ◌∙◌}
use Rattle.comparison.proofs.ComparisonLaws.{differs_on, differs_here, differs_end}
use Rattle.comparison.proofs.first_differing.Goals as goal

pub loop-element-preserved : goal.loop-element-preserved
loop-element-preserved c = differs_on _ _ _ c.loop-element.invariant c.loop-element-test.true _ _ c.value_of-value.ensures c.value_of-second_value.ensures (sym c.same.ensures ∙ c.if-not-same.false)

pub returns-then-not-same : goal.returns-then-not-same
returns-then-not-same c = differs_here _ _ _ c.loop-element.invariant c.loop-element-test.true _ _ c.value_of-value.ensures c.value_of-second_value.ensures (sym c.same.ensures ∙ c.if-not-same.true)

pub returns : goal.returns
returns c = differs_end _ _ _ c.loop-element.invariant c.loop-element-test.false
