-- Covariances: numbers in decimal or exponential form, whose value is a whole number in two parts with a signed power of ten.
use Prim.Native.Char.{code}
use Rattle.std.specs.Prelude.{ℕ, suc, ◌/◌, ◌%◌, Bool, true, cond, ◌&&◌, ◌||◌, List, [], ◌∷◌, eqb, leb, ltb, ℤ, pos, ◌-ℤ◌, length, take, drop, Option, Some, None, Result, Ok, Err}
use Rattle.text.specs.Digits.{number}
use Rattle.refusal.specs.declared.Kind.{Kind}
use Rattle.refusal.specs.declared.Kind.TheVariants.{TooWide, WrongForm}
use Rattle.value.specs.Decimal.{is_decimal, places}
use Rattle.value.specs.Numeral.{is_digits}
use Rattle.value.specs.Sign.{is_minus, bare, with_sign}
use Rattle.value.specs.declared.Value.{Value}
use Rattle.value.specs.declared.Value.TheVariants.{Scaled}

-- The byte is `e` or `E`.
abbrev pub is_mark : ℕ → Bool
is_mark byte = eqb byte (code "e") || eqb byte (code "E")

-- How many bytes stand before the first `e` or `E`: all where there is none.
unfoldable pub before_mark : List ℕ → ℕ
before_mark [] = 0
before_mark (byte ∷ text) = cond (is_mark byte) 0 (suc (before_mark text))

-- The decimal of a covariance without sign: what stands before the first `e` or `E`.
abbrev pub mantissa : List ℕ → List ℕ
mantissa text = take (before_mark text) text

-- Its exponent: what stands after the first `e` or `E`, nothing where there is none.
abbrev pub exponent : List ℕ → List ℕ
exponent text = drop 1 (drop (before_mark text) text)

-- The exponent, where there is an `e` or `E` before it.
abbrev pub marked_exponent : List ℕ → Option (List ℕ)
marked_exponent text = cond (eqb (before_mark text) (length text)) None (Some (exponent text))

-- An optional sign and one to three digits.
unfoldable pub is_exponent : List ℕ → Bool
is_exponent text = is_digits (bare true text) && leb (length (bare true text)) 3

-- Decimal form is a decimal, exponential form a decimal, `e` or `E`, and an exponent.
unfoldable pub is_scaled : List ℕ → Bool
is_scaled text = is_decimal (mantissa text) && (eqb (before_mark text) (length text) || is_exponent (exponent text))

-- The whole number: the digits of the decimal, with or without a point among them.
unfoldable pub size : List ℕ → ℕ
size text = number 0 (mantissa text)

-- The power of ten: the exponent, 0 where there is none, less the places of the decimal.
unfoldable pub power : List ℕ → ℤ
power text = with_sign (is_minus (exponent text)) (number 0 (exponent text)) -ℤ pos (places (mantissa text))

-- The whole number is given in two parts, high and low, by this number.
abbrev pub part_base : ℕ
part_base = 10000000000

-- A value by the sign before it, its whole number and its power of ten; the sign of zero is plus.
abbrev pub scaled_as : Bool → ℕ → ℤ → Value
scaled_as minus whole power = Scaled (minus && ltb 0 whole) (whole / part_base) (whole % part_base) power

-- A covariance may have one `+` or `-` before it, not counted in its width, which is 20.
-- It is 8 when its bytes, less that sign, pass its width, whatever they are.
unfoldable pub covariance : List ℕ → Result Value Kind
covariance text =
    cond (ltb 20 (length (bare true text))) (Err TooWide)
    (cond (is_scaled (bare true text))
    (Ok (scaled_as (is_minus text) (size (bare true text)) (power (bare true text))))
    (Err WrongForm))
