use Rattle.text.proofs.LineLaws.{field_parts, field_past}
use Rattle.text.proofs.lines.field_at.Goals as goal

pub returns-then-line-from : goal.returns-then-line-from
returns-then-line-from c = field_past _ _ c.if-line-from.true

pub returns : goal.returns
returns c = field_parts _ _ _ _ _ c.if-line-from.false c.up_to-width.ensures.0 c.trimmed-value.ensures
