use Rattle.text.proofs.LineLaws.{tight_none, tight_some}
use Rattle.text.proofs.lines.is_tight.Goals as goal
use borrow.Author.Tests.{eqb-true, eqb-false}
use mathlib.Core.Path.{sym, ◌∙◌}

pub returns-then-is_empty : goal.returns-then-is_empty
returns-then-is_empty c = tight_none c.args.field.now (eqb-true _ _ (sym c.is_empty.ensures ∙ c.if-is_empty.true))

pub returns : goal.returns
returns c = tight_some c.args.field.now (eqb-false _ _ (sym c.is_empty.ensures ∙ c.if-is_empty.false))
