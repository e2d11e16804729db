use mathlib.Core.Path.{sym, ◌∙◌}
use Rattle.text.proofs.LineLaws.{trim_none, trim_parts}
use Rattle.text.proofs.lines.trimmed.Goals as goal

pub returns-then-is_tight : goal.returns-then-is_tight
returns-then-is_tight c = trim_none c.args.field.now (sym c.is_tight.ensures ∙ c.if-is_tight.true)

pub returns : goal.returns
returns c = trim_parts _ _ _ c.leading_blanks-start.ensures c.kept-length.ensures
