-- Writing over the start of a lent output, and numbers as bytes, low byte first.
use Rattle.std.specs.Prelude.{ℕ, zero, suc, ◌+◌, ◌*◌, ◌/◌, ◌%◌, Bool, cond, List, [], ◌∷◌, ◌++◌, leb, length, drop}

-- The text over the start of the output: what stands after its end stays.
unfoldable pub over : {A : Type 0} → List A → List A → List A
over text output = text ++ drop (length text) output

-- The output has room for all of the text.
abbrev pub has_room : {A : Type 0} → List A → List A → Bool
has_room text output = leb (length text) (length output)

-- The output after the text was put there: over its start where there is room for all of it, otherwise unchanged.
unfoldable pub put_over : {A : Type 0} → List A → List A → List A
put_over text output = cond (has_room text output) (over text output) output

-- How many items were put: all of the text where there is room, otherwise none.
unfoldable pub put_length : {A : Type 0} → List A → List A → ℕ
put_length text output = cond (has_room text output) (length text) 0

-- The first `count` bytes of a number, low byte first.
unfoldable pub low_bytes : ℕ → ℕ → List ℕ
low_bytes zero number = []
low_bytes (suc count) number = number % 256 ∷ low_bytes count (number / 256)

-- The number that bytes spell, low byte first.
unfoldable pub spelt : List ℕ → ℕ
spelt [] = 0
spelt (byte ∷ text) = byte + 256 * spelt text
