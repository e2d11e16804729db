-- Numbers written in digits.
use Prim.Native.Char.{code}
use Rattle.std.specs.Prelude.{ℕ, Bool, not, ◌&&◌, List, eqb, leb, ltb, length, get_or, take, drop}
use Rattle.text.specs.Class.{leading, is_only}
use Rattle.text.specs.Digits.{number}
use Rattle.text.specs.declared.class.Class.TheVariants.{Digit}

-- How many digits a text starts with.
abbrev pub digits : List ℕ → ℕ
digits text = leading Digit text

-- Digits and nothing else, at least one.
unfoldable pub is_digits : List ℕ → Bool
is_digits text = ltb 0 (digits text) && is_only Digit text

-- The text does not start with 0.
abbrev pub no_leading_zero : List ℕ → Bool
no_leading_zero text = not (eqb (get_or text 0 0) (code "0"))

-- A number without leading zero, of 1 to `most` digits.
unfoldable pub is_count : ℕ → List ℕ → Bool
is_count most text = is_digits text && no_leading_zero text && leb (length text) most

-- The number that the digits among `count` bytes from `from` on make.
unfoldable pub part : ℕ → ℕ → List ℕ → ℕ
part from count text = number 0 (take count (drop from text))
