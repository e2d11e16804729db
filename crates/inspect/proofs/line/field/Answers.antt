-- `inspect::line::field` meets its contract.
use Rattle.inspect.proofs.LineLaws.{field_is}
use Rattle.inspect.proofs.line.field.Goals as goal

pub returns : goal.returns
returns c =
    let index = rw c.saturating_sub.ensures at c.min-index.ensures in
    field_is _ _ _ _ _ c.count.ensures.0 index c.start.ensures c.field_at.ensures
