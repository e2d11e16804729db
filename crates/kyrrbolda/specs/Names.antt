-- The names of elements, as they are asked for by number.
use Rattle.std.specs.Prelude.{ℕ, zero, suc, List, []}
use Rattle.element.specs.Table.{name_of}

-- The name of the element of a number, from 1; empty where no element has that number.
unfoldable pub numbered_name : ℕ → List ℕ
numbered_name zero = []
numbered_name (suc index) = name_of index
