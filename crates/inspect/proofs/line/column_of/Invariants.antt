-- `inspect::line::column_of` meets its contract.
use Prim.Native.Nat.{◌+◌}
use lib.ListN.{drop}
use mathlib.Core.Path.{◌≡◌}
use Rattle.text.specs.Lines.{fields}
use Rattle.inspect.specs.Line.{column_from, column_of}
use Rattle.inspect.proofs.line.column_of.Given as goal

abbrev pub invariant-loop-index : goal.invariant-loop-index
invariant-loop-index l = column_of l.columns l.element ≡ column_from (l.index + 1) (drop l.index (fields l.columns)) l.element
