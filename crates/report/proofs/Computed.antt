-- Reading with every rule opened, so that a small report is worked out by computing.
use Prim.Native.Nat.{ℕ}
use mathlib.Core.List.{List}
use Rattle.text.specs.Class.{leading, is_only}
use Rattle.text.specs.Digits.{after, number}
use Rattle.text.specs.Part.{same, starts}
use Rattle.value.specs.Angle.{right_ascension, declination, is_degrees, is_right_ascension, units}
use Rattle.value.specs.Calendar.{day_number, is_date, is_leap, month_days, month_length, year_days}
use Rattle.value.specs.Centre.{centre, is_integer, less_minus}
use Rattle.value.specs.Characters.{alphanumeric}
use Rattle.value.specs.Covariance.{covariance, is_scaled, is_exponent, before_mark, size, power}
use Rattle.value.specs.Decimal.{decimal, decimal_in, is_too_wide, is_decimal, is_pointed, places}
use Rattle.value.specs.Designation.{perm_id, is_numbered_comet}
use Rattle.value.specs.Numeral.{is_count, is_digits, part}
use Rattle.value.specs.Sign.{bare, with_sign}
use Rattle.value.specs.Time.{obs_time, day_of, fraction, is_fraction, is_moment, is_time, is_time_end, microseconds}
use Rattle.value.specs.Word.{mode, system, flag}
use Rattle.element.specs.Table.{index_of, index_in}
use Rattle.element.specs.Form.{fault_of, value_of}
use Rattle.element.specs.Observation.{observation_fault, fault_in, optical_fault, radar_fault, radar_missing, first_held, first_missing, group_fault, group_missing, holds_any, is_radar, is_earth, is_wgs84}
use Rattle.report.specs.Report.{Outcome, columns_from, data_line, field_fault, fill, step, read_from, read}

-- What a text reads as.
unfoldable pub reading : List ℕ → Outcome
unfolding read read_from step columns_from data_line field_fault fill same starts index_of index_in fault_of value_of alphanumeric leading is_only perm_id is_numbered_comet mode system flag
    centre is_integer less_minus decimal decimal_in is_too_wide obs_time day_of fraction is_fraction is_moment is_time is_time_end microseconds day_number is_date
    is_leap month_days month_length year_days right_ascension declination is_degrees is_right_ascension units is_decimal is_pointed places is_count is_digits part
    bare with_sign after number covariance is_scaled is_exponent before_mark size power observation_fault fault_in optical_fault radar_fault radar_missing first_held first_missing group_fault group_missing holds_any is_radar is_earth
    is_wgs84
reading text = read text
