-- `text::lines::scan` meets its contract.
use mathlib.Core.Path.{◌∙◌, sym}
use Rattle.text.proofs.LineLaws.{step_over}
use Rattle.text.proofs.lines.scan.Goals as goal

pub loop-step-preserved : goal.loop-step-preserved
loop-step-preserved c =
    let split = c.in-Some.ensures.cases in
    step_over _ _ _ _ _ 16 c.loop-step.invariant split.0 split.1 split.2 (sym c.all_printable.ensures ∙ c.if-not-all_printable.false) _ c.bars_in-fields.ensures
