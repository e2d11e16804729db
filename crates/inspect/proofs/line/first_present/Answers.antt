-- `inspect::line::first_present` meets its contract.
use native.Mathlib.Omega.{arith}
use mathlib.Core.Path.{sym, ◌∙◌}
use Rattle.inspect.proofs.LineLaws.{present_on, present_here, numbered_some, present_above}
use Rattle.inspect.proofs.line.first_present.Goals as goal

pub returns-then-is_present : goal.returns-then-is_present
returns-then-is_present c =
    let here = sym c.is_present.ensures ∙ c.if-is_present.true in
    numbered_some _ _ (present_above _ _ _ here) (present_here _ _ _ _ _ _ c.loop-element.invariant (omega arith) here)

pub loop-element-preserved : goal.loop-element-preserved
loop-element-preserved c = present_on _ _ _ _ _ _ c.loop-element.invariant (omega arith) (sym c.is_present.ensures ∙ c.if-is_present.false)
