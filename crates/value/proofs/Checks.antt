-- Laws of what a check finds: a text without a fault passes each test of its form, and the fault of a decimal is its fault in each range.
use Prim.Native.Nat.{ℕ}
use mathlib.Core.Path.{◌≡◌, refl}
use mathlib.Core.Bool.{Bool, true, false, cond}
use mathlib.Core.List.{List}
use lib.Dec.{leb, ltb}
use lib.IntN.{pos}
use lib.ListN.{length}
use Rattle.std.specs.Prelude.{Result, Ok, Err}
use Rattle.text.specs.Digits.{number}
use Rattle.refusal.specs.declared.Kind.{Kind}
use Rattle.refusal.specs.declared.Kind.TheVariants.{TooWide, WrongForm, OutOfRange}
use Rattle.value.specs.Angle.{is_degrees, is_right_ascension, units, right_ascension, declination}
use Rattle.value.specs.Check.{less_value}
use Rattle.value.specs.Covariance.{is_scaled, size, power, scaled_as, covariance}
use Rattle.value.specs.Decimal.{is_decimal, places, is_too_wide, Any, Positive, Unit, is_within, decimal_of, decimal_in, decimal, correlation}
use Rattle.value.specs.Sign.{is_minus, bare, with_sign}
use Rattle.value.specs.Time.{is_time, is_moment, day_of, microseconds, obs_time}
use Rattle.value.specs.declared.Value.{Value}
use Rattle.value.specs.declared.Value.TheVariants.{Time, Angle}

-- A value of a form, in a range.
abbrev in_range : Bool → Bool → Value → Result Value Kind
in_range form range value = cond form (cond range (Ok value) (Err OutOfRange)) (Err WrongForm)

-- Where it is no fault, each test is passed.
in_range_lem : (form range : Bool) (value : Value) → Ok tt ≡ less_value (in_range form range value) → (form ≡ true) × (range ≡ true)
in_range_lem true true value e = (refl, refl)
in_range_lem true false value e = cc
in_range_lem false range value e = cc

-- A value of a form, in a range, within a width.
abbrev in_width : Bool → Bool → Bool → Value → Result Value Kind
in_width wide form range value = cond wide (Err TooWide) (in_range form range value)

pub in_width_lem : (wide form range : Bool) (value : Value) → Ok tt ≡ less_value (in_width wide form range value)
    → (wide ≡ false) × (form ≡ true) × (range ≡ true)
in_width_lem true form range value e = cc
in_width_lem false form range value e = let right = in_range_lem form range value e in (refl, right.0, right.1)

-- A text whose time a check finds to be right has the form of one, and is on the calendar and the clock.
pub found_time : (text : List ℕ) → Ok tt ≡ less_value (obs_time text) → (is_time text ≡ true) × (is_moment text ≡ true)
unfolding obs_time
found_time text e = in_range_lem (is_time text) (is_moment text) (Time (day_of text) (microseconds text)) e

-- A text in which a check finds no fault passes each test of its form.
pub found_ascension : (text : List ℕ) → Ok tt ≡ less_value (right_ascension text)
    → (is_right_ascension text ≡ true) × (ltb (units text) 360000000000 ≡ true)
unfolding right_ascension
found_ascension text e =
    in_range_lem (is_right_ascension text) (ltb (units text) 360000000000) (Angle (pos (units text))) e

pub found_declination : (text : List ℕ) → Ok tt ≡ less_value (declination text)
    → (is_degrees 2 (bare true text) ≡ true) × (leb (units (bare true text)) 90000000000 ≡ true)
unfolding declination
found_declination text e =
    let rest = bare true text in
    in_range_lem (is_degrees 2 rest) (leb (units rest) 90000000000) (Angle (with_sign (is_minus text) (units rest))) e

pub found_decimal : (width : ℕ) (signed : Bool) (text : List ℕ) → Ok tt ≡ less_value (decimal width signed text)
    → (is_too_wide width (bare signed text) ≡ false) × (is_decimal (bare signed text) ≡ true)
    × (is_within (cond signed Any Positive) (number 0 (bare signed text)) (places (bare signed text)) ≡ true)
unfolding decimal decimal_in
found_decimal width signed text e =
    let rest = bare signed text in
    let within = is_within (cond signed Any Positive) (number 0 rest) (places rest) in
    in_width_lem (is_too_wide width rest) (is_decimal rest) within (decimal_of text rest) e

pub found_covariance : (text : List ℕ) → Ok tt ≡ less_value (covariance text)
    → (ltb 20 (length (bare true text)) ≡ false) × (is_scaled (bare true text) ≡ true)
unfolding covariance
found_covariance text e =
    let rest = bare true text in
    let right = in_width_lem (ltb 20 (length rest)) (is_scaled rest) true (scaled_as (is_minus text) (size rest) (power rest)) e in
    (right.0, right.1)

-- The fault of a decimal of any value is its fault in each range.
any_range : (kind : Kind) (wide form range : Bool) (value : Value) → Err kind ≡ less_value (in_width wide form true value) → Err kind ≡ in_width wide form range value
any_range kind true form range value e = cc
any_range kind false true range value e = cc
any_range kind false false range value e = cc

-- The fault of a signed decimal of 13 is that of a correlation.
pub found_correlation : (text : List ℕ) (kind : Kind) → Err kind ≡ less_value (decimal 13 true text) → Err kind ≡ correlation text
unfolding decimal decimal_in correlation
found_correlation text kind e =
    let rest = bare true text in
    any_range kind (is_too_wide 13 rest) (is_decimal rest) (is_within Unit (number 0 rest) (places rest)) (decimal_of text rest) e
