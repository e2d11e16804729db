-- Decimals: their form, their places and their values.
use Prim.Native.Char.{code}
use Rattle.std.specs.Prelude.{ℕ, ◌-◌, ◌^◌, Bool, true, cond, ◌&&◌, ◌||◌, List, eqb, leb, ltb, length, get_or, drop, Result, Ok, Err}
use Rattle.text.specs.Class.{is_only}
use Rattle.text.specs.Digits.{number}
use Rattle.text.specs.declared.class.Class.TheVariants.{Digit}
use Rattle.refusal.specs.declared.Kind.{Kind}
use Rattle.refusal.specs.declared.Kind.TheVariants.{TooWide, WrongForm, OutOfRange}
use Rattle.value.specs.Numeral.{digits, is_digits}
use Rattle.value.specs.Sign.{is_minus, bare, with_sign}
use Rattle.value.specs.declared.Value.{Value}
use Rattle.value.specs.declared.Value.TheVariants.{Decimal}

-- A point and only digits after it, perhaps none.
unfoldable pub is_pointed : List ℕ → Bool
is_pointed text = eqb (get_or text 0 0) (code ".") && is_only Digit (drop 1 text)

-- A decimal is digits, optionally with a point before, among or after them; it needs one digit, on either side.
unfoldable pub is_decimal : List ℕ → Bool
is_decimal text = is_digits text || (ltb 1 (length text) && is_pointed (drop (digits text) text))

-- How many digits stand after the point of a decimal without sign.
unfoldable pub places : List ℕ → ℕ
places text = length text - digits text - 1

-- The widest decimal whose whole number is given; a width above it counts as this one.
abbrev pub widest : ℕ
widest = 18

-- A decimal without sign passes its width.
unfoldable pub is_too_wide : ℕ → List ℕ → Bool
is_too_wide width text = ltb width (length text) || ltb widest (length text)

-- The values that a decimal may have: any, those above zero, or those from -1 to 1.
pub data Range : Type 0 where
  Any : Range
  Positive : Range
  Unit : Range

-- A whole number with places lies in the range: any, above zero, or from -1 to 1 inclusive.
abbrev pub is_within : Range → ℕ → ℕ → Bool
is_within Any whole count = true
is_within Positive whole count = ltb 0 whole
is_within Unit whole count = leb whole (10 ^ count)

-- Its value is a signed whole number with a count of places, from the text and from the text less its sign.
abbrev pub decimal_of : List ℕ → List ℕ → Value
decimal_of text rest = Decimal (with_sign (is_minus text) (number 0 rest)) (places rest)

-- A decimal of a width, with or without a sign, in a range.
-- It is 8 when its bytes, less a leading sign of a signed decimal, pass its width, whatever they are.
unfoldable pub decimal_in : Range → ℕ → Bool → List ℕ → Result Value Kind
decimal_in range width signed text =
    cond (is_too_wide width (bare signed text)) (Err TooWide)
    (cond (is_decimal (bare signed text))
    (cond (is_within range (number 0 (bare signed text)) (places (bare signed text)))
    (Ok (decimal_of text (bare signed text)))
    (Err OutOfRange))
    (Err WrongForm))

-- A signed one may have one `+` or `-` before it, not counted in the width.
-- A positive one has no sign (else 9) and is above zero (else 10).
unfoldable pub decimal : ℕ → Bool → List ℕ → Result Value Kind
decimal width signed text = decimal_in (cond signed Any Positive) width signed text

-- rmsCorr: signed decimal, 13, from -1 to 1 inclusive.
unfoldable pub correlation : List ℕ → Result Value Kind
correlation text = decimal_in Unit 13 true text
