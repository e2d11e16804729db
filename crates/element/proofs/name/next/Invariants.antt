-- `element::name::next` meets its contract. The invariant: the names passed, and the place among those left, make the answer.
use Prim.Native.Nat.{◌+◌}
use lib.ListN.{drop}
use mathlib.Core.Path.{◌≡◌}
use Rattle.element.specs.Table.{index_in, names}
use Rattle.element.proofs.name.next.Given as goal

abbrev pub invariant-loop-i : goal.invariant-loop-i
invariant-loop-i l = l.from + index_in (drop l.from names) l.name ≡ l.i + index_in (drop l.i names) l.name
