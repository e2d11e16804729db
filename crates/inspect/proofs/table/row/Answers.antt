-- `inspect::table::row` meets its contract.
use Rattle.inspect.proofs.TableLaws.{row_on}
use mathlib.Core.Path.{sym, ◌∙◌}
use Rattle.inspect.proofs.table.row.Goals as goal

pub loop-row-preserved : goal.loop-row-preserved
loop-row-preserved c =
    row_on _ _ _ _ c.loop-row.invariant c.loop-row-test.true _ c.entry.ensures
    (sym c.same.ensures ∙ c.if-same.false)
