-- `inspect::line::column_of` meets its contract.
use native.Mathlib.Omega.{arith}
use mathlib.Core.Path.{ap, ◌∙◌}
use Rattle.std.specs.Prelude.{unwrap_or}
use Rattle.text.specs.Numbered.{numbered}
use Rattle.inspect.proofs.LineLaws.{column_start, column_on, column_here, column_end, numbered_some, number_back}
use Rattle.inspect.proofs.line.column_of.Goals as goal

pub loop-index-init : goal.loop-index-init
loop-index-init c = column_start _ _

pub returns-then-unwrap_or-element : goal.returns-then-unwrap_or-element
returns-then-unwrap_or-element c =
    let named = c.unwrap_or.ensures ∙ ap (λ n. unwrap_or n 0) c.element_at.ensures ∙ number_back _ in
    numbered_some _ _ (omega arith)
    (column_here _ _ _ c.loop-index.invariant _ c.count-index-end.ensures.0 (omega arith) _ named c.if-unwrap_or-element.true)

pub loop-index-preserved : goal.loop-index-preserved
loop-index-preserved c =
    let named = c.unwrap_or.ensures ∙ ap (λ n. unwrap_or n 0) c.element_at.ensures ∙ number_back _ in
    column_on _ _ _ c.loop-index.invariant _ c.count-index-end.ensures.0 (omega arith) _ named c.if-unwrap_or-element.false

pub returns-else-unwrap_or-element : goal.returns-else-unwrap_or-element
returns-else-unwrap_or-element c =
    let named = c.unwrap_or.ensures ∙ ap (λ n. unwrap_or n 0) c.element_at.ensures ∙ number_back _ in
    let on = column_on _ _ _ c.loop-index.invariant _ c.count-index-end.ensures.0 (omega arith) _ named c.if-unwrap_or-element.false in
    ap numbered (column_end _ _ _ on _ c.count-index-end.ensures.0 (omega arith))

pub returns : goal.returns
returns c = ap numbered (column_end _ _ _ c.loop-index.invariant _ c.count-index-end.ensures.0 (omega arith))
