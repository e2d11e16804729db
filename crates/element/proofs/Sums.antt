-- Every sum of each table is right: each computes. Tables that are right make one that is right.
use mathlib.Core.List.{List, [], ◌∷◌, ◌++◌}
use mathlib.Core.Path.{refl}
use Rattle.text.specs.Class.{leading, is_only}
use Rattle.text.specs.Digits.{after, number}
use Rattle.text.specs.Part.{same, starts}
use Rattle.value.specs.Angle.{is_degrees, is_right_ascension, units, right_ascension, declination}
use Rattle.value.specs.Calendar.{is_leap, year_days, month_length, month_days, is_date, day_number}
use Rattle.value.specs.Centre.{centre, is_integer, less_minus}
use Rattle.value.specs.Characters.{alphanumeric}
use Rattle.value.specs.Covariance.{before_mark, is_exponent, is_scaled, size, power, covariance}
use Rattle.value.specs.Decimal.{is_pointed, is_decimal, places, is_too_wide, decimal_in, decimal, correlation}
use Rattle.value.specs.Designation.{is_capitals, is_minor_planet, is_comet_end, is_comet, prov_id}
use Rattle.value.specs.Numeral.{is_digits, is_count, part}
use Rattle.value.specs.Sign.{bare, with_sign}
use Rattle.value.specs.Time.{is_fraction, is_time_end, is_time, is_moment, day_of, fraction, microseconds, obs_time}
use Rattle.value.specs.Word.{flag}
use Rattle.element.specs.Form.{value_of}
use Rattle.element.specs.Sums.{Sum, IsRight, AreRight, value_sums, point_value_sums, radar_value_sums, covariance_value_sums}
use Rattle.element.specs.Table.{index_in, index_of}

-- P4 to P10.
pub value_sums_right : AreRight value_sums
unfolding IsRight AreRight value_sums value_of index_of index_in same starts leading is_only after number is_degrees is_right_ascension units right_ascension
    declination is_leap year_days month_length month_days is_date day_number is_pointed is_decimal places is_capitals is_minor_planet is_comet_end is_comet prov_id
    is_digits is_count part bare with_sign is_fraction is_time_end is_time is_moment day_of fraction microseconds obs_time
value_sums_right = (refl, (refl, (refl, (refl, (refl, (refl, (refl, (refl, (refl, (refl, tt))))))))))

-- Order 2.
pub point_value_sums_right : AreRight point_value_sums
unfolding IsRight AreRight point_value_sums value_of index_of index_in same starts leading is_only after number is_degrees is_right_ascension units right_ascension
    declination is_pointed is_decimal places is_too_wide decimal_in decimal correlation centre is_integer less_minus is_digits is_fraction is_time_end is_time
    obs_time bare with_sign
point_value_sums_right = (refl, (refl, (refl, (refl, (refl, (refl, (refl, (refl, (refl, (refl, (refl, (refl, (refl, (refl, (refl, (refl, (refl, (refl, (refl, (refl, (refl, tt)))))))))))))))))))))

-- Order 3.
pub radar_value_sums_right : AreRight radar_value_sums
unfolding IsRight AreRight radar_value_sums value_of index_of index_in same leading is_only after number is_pointed is_decimal places is_too_wide decimal_in
    decimal alphanumeric flag is_digits bare with_sign
radar_value_sums_right = (refl, (refl, (refl, (refl, (refl, (refl, (refl, (refl, (refl, (refl, (refl, (refl, tt))))))))))))

-- Order 5.
pub covariance_value_sums_right : AreRight covariance_value_sums
unfolding IsRight AreRight covariance_value_sums value_of index_of index_in same leading is_only after number is_pointed is_decimal places covariance is_scaled
    is_exponent before_mark size power is_digits bare with_sign
covariance_value_sums_right = (refl, (refl, (refl, (refl, (refl, (refl, (refl, (refl, (refl, (refl, (refl, (refl, (refl, (refl, (refl, (refl, (refl, (refl, (refl, tt)))))))))))))))))))

-- Two tables that are right are right one after the other.
pub right_append : (xs ys : List Sum) → AreRight xs → AreRight ys → AreRight (xs ++ ys)
unfolding AreRight
right_append [] ys r s = s
right_append (x ∷ xs) ys r s = (r.0, right_append xs ys r.1 s)
