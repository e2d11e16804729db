-- ra and dec, in units of 0.000000001 degree.
use Prim.Native.Char.{code}
use Rattle.std.specs.Prelude.{ℕ, ◌-◌, ◌*◌, ◌^◌, Bool, true, cond, ◌&&◌, ◌||◌, List, eqb, leb, ltb, pos, get_or, Result, Ok, Err}
use Rattle.text.specs.Digits.{number}
use Rattle.refusal.specs.declared.Kind.{Kind}
use Rattle.refusal.specs.declared.Kind.TheVariants.{WrongForm, OutOfRange}
use Rattle.value.specs.Numeral.{digits, no_leading_zero}
use Rattle.value.specs.Sign.{is_minus, bare, with_sign}
use Rattle.value.specs.Decimal.{is_decimal, places}
use Rattle.value.specs.declared.Value.{Value}
use Rattle.value.specs.declared.Value.TheVariants.{Angle}

-- A decimal with an integer part of at most `most` digits, no leading zero except `0` alone, and at most 9 places.
unfoldable pub is_degrees : ℕ → List ℕ → Bool
is_degrees most text = is_decimal text && leb (digits text) most && leb (places text) 9 && (eqb (digits text) 1 || no_leading_zero text)

-- Three digits start with 1, 2 or 3.
unfoldable pub is_right_ascension : List ℕ → Bool
is_right_ascension text = is_degrees 3 text && (ltb (digits text) 3 || ltb (get_or text 0 0) (code "4"))

-- The digits with zeros put after them up to nine places.
unfoldable pub units : List ℕ → ℕ
units text = number 0 text * 10 ^ (9 - places text)

-- ra: 0 to below 360.
unfoldable pub right_ascension : List ℕ → Result Value Kind
right_ascension text =
    cond (is_right_ascension text)
    (cond (ltb (units text) 360000000000) (Ok (Angle (pos (units text)))) (Err OutOfRange))
    (Err WrongForm)

-- dec: optional sign, integer part of at most two digits; -90 to 90 inclusive.
unfoldable pub declination : List ℕ → Result Value Kind
declination text =
    cond (is_degrees 2 (bare true text))
    (cond (leb (units (bare true text)) 90000000000) (Ok (Angle (with_sign (is_minus text) (units (bare true text))))) (Err OutOfRange))
    (Err WrongForm)
