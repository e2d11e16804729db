-- Sets of elements. A set is a number whose bit e stands for index e.
use Rattle.std.specs.Prelude.{ℕ, zero, suc, ◌+◌, ◌/◌, ◌%◌, ◌^◌, Bool, List, [], ◌∷◌, fold, map, eqb, length}
use Rattle.std.specs.Int.Bits.{bit_or}
use Rattle.element.specs.Table.{names}

-- The element of an index is in the set.
abbrev pub has : ℕ → ℕ → Bool
has set index = eqb (set / 2 ^ index % 2) 1

-- The set of the elements that are in one of the sets, or in the one that is given.
unfoldable pub joined : ℕ → List ℕ → ℕ
joined set others = fold bit_or set others

-- A length where the bit is set, else 0.
abbrev pub length_if : ℕ → ℕ → ℕ
length_if zero length = 0
length_if (suc bit) length = length

-- The lengths of a set's elements together, from those of the elements from the set's lowest bit on; one that is not given counts 0.
unfoldable pub bytes_in : List ℕ → ℕ → ℕ
bytes_in [] set = 0
bytes_in (length ∷ lengths) set = length_if (set % 2) length + bytes_in lengths (set / 2)

-- The lengths of the elements' names, by index.
unfoldable pub name_lengths : List ℕ
name_lengths = map length names

-- The bytes of the names of a set's elements.
abbrev pub name_bytes : ℕ → ℕ
name_bytes set = bytes_in name_lengths set
