-- An observation as the search for the cuts counts it.
use Rattle.std.specs.Prelude.{ℕ, ◌+◌, List, [], ◌∷◌, length}
use Rattle.element.specs.Observation.{Observation, set_of}
use Rattle.cuts.specs.Block.{Row, row}
use Rattle.cuts.specs.Plan.{Marked}
use Rattle.layout.specs.Written.{mark_of}

-- The bytes of texts together.
unfoldable pub size_of : List (List ℕ) → ℕ
size_of [] = 0
size_of (text ∷ texts) = length text + size_of texts

-- The set of its elements, the bytes of its values, and that it is one row.
abbrev pub as_row : Observation → Row
as_row observation = row (set_of observation) (size_of observation) 1

-- The same with its mark.
abbrev pub as_marked : Observation → Marked
as_marked observation = record { mark = mark_of observation; row = as_row observation }
