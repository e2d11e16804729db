-- `inspect::table::row` meets its contract.
use Prim.Native.Nat.{◌-◌}
use mathlib.Core.Path.{◌≡◌}
use Rattle.inspect.specs.Tables.{row_from, row_of}
use Rattle.inspect.proofs.table.row.Given as goal

abbrev pub invariant-loop-row : goal.invariant-loop-row
invariant-loop-row l = row_of l.table l.name ≡ row_from (l.row-end - l.row) l.row l.table l.name
