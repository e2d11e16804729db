-- Classes of bytes, and the bytes of a class that a text starts with or is made of.
use Prim.Native.Char.{code}
use Rattle.std.specs.Prelude.{ℕ, suc, Bool, cond, ◌&&◌, ◌||◌, List, [], ◌∷◌, leb, eqb, length}
use Rattle.text.specs.declared.class.Class.{Class}
use Rattle.text.specs.declared.class.Class.TheVariants.{Digit, Capital, Alphanumeric}

-- The byte lies from `first` to `last`, both included.
abbrev pub is_between : ℕ → ℕ → ℕ → Bool
is_between first last byte = leb first byte && leb byte last

-- The byte is one of 0 to 9.
abbrev pub is_digit : ℕ → Bool
is_digit byte = is_between (code "0") (code "9") byte

-- The byte is one of A to Z.
abbrev pub is_capital : ℕ → Bool
is_capital byte = is_between (code "A") (code "Z") byte

-- The byte is of the class. Alphanumerics are the 52 letters, the ten digits, the blank and the underscore.
abbrev pub is_of : Class → ℕ → Bool
is_of Digit byte = is_digit byte
is_of Capital byte = is_capital byte
is_of Alphanumeric byte = is_digit byte || is_capital byte || is_between (code "a") (code "z") byte || eqb byte (code " ") || eqb byte (code "_")

-- How many bytes of the class a text starts with.
unfoldable pub leading : Class → List ℕ → ℕ
leading class [] = 0
leading class (byte ∷ text) = cond (is_of class byte) (suc (leading class text)) 0

-- Every byte of the text is of the class.
unfoldable pub is_only : Class → List ℕ → Bool
is_only class text = eqb (leading class text) (length text)
