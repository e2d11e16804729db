-- The record of document 01's specimen, byte by byte.
use mathlib.Core.Path.{◌≡◌, refl}
use mathlib.Core.List.{[], ◌∷◌}
use Rattle.text.specs.Class.{leading, is_only}
use Rattle.text.specs.Digits.{after, number}
use Rattle.text.specs.Output.{low_bytes}
use Rattle.text.specs.Part.{same, starts}
use Rattle.value.specs.Angle.{is_degrees, is_right_ascension, units, right_ascension, declination}
use Rattle.value.specs.Calendar.{is_leap, year_days, month_length, month_days, is_date, day_number}
use Rattle.value.specs.Decimal.{is_pointed, is_decimal, places}
use Rattle.value.specs.Numeral.{is_digits, part}
use Rattle.value.specs.Sign.{bare, with_sign}
use Rattle.value.specs.Time.{is_fraction, is_time_end, is_time, is_moment, day_of, fraction, microseconds, obs_time}
use Rattle.element.specs.Form.{value_of}
use Rattle.report.specs.Specimen.{specimen_observation}
use Rattle.night.specs.Record.{fields_in, record_bytes, record_of}

-- Number 1, W84, day 60370, 14706500000 microseconds, 10500000000 and -250000000 units.
pub specimen_record : record_of 1 specimen_observation
    ≡ 0 ∷ 0 ∷ 0 ∷ 0 ∷ 87 ∷ 56 ∷ 52 ∷ 32 ∷ 210 ∷ 235 ∷ 0 ∷ 0 ∷ 160 ∷ 97 ∷ 147 ∷ 108 ∷ 3 ∷ 0 ∷ 0 ∷ 0
    ∷ 0 ∷ 73 ∷ 217 ∷ 113 ∷ 2 ∷ 0 ∷ 0 ∷ 0 ∷ 128 ∷ 77 ∷ 25 ∷ 241 ∷ 255 ∷ 255 ∷ 255 ∷ 255 ∷ 0 ∷ 0 ∷ 0 ∷ 0 ∷ []
unfolding record_of record_bytes fields_in low_bytes value_of obs_time is_time is_time_end is_fraction is_moment day_of microseconds fraction part
    same starts leading is_only number after is_date is_leap month_length month_days year_days day_number
    right_ascension declination is_right_ascension is_degrees is_decimal is_pointed is_digits places units bare with_sign
specimen_record = refl
