-- The limits of a day as numbers, for code.
use mathlib.Core.Path.{◌≡◌, refl}
use lib.IntN.{pos, negsuc}
use Rattle.value.specs.Calendar.{is_leap, year_days, month_length, month_days, day_number}
use Rattle.value.proofs.Days.{years_direct}

-- 0001-01-01 is day -678575.
pub first_is : day_number 1 1 1 ≡ negsuc 678574
unfolding day_number year_days month_days is_leap
first_is = refl

-- The days before the years 9999 and 10000.
last_year : year_days 9999 ≡ 3652060
last_year = years_direct 9999

pub years : year_days 10000 ≡ 3652425
years = years_direct 10000

-- 9999-12-31 is day 2973483.
pub last_is : day_number 9999 12 31 ≡ pos 2973483
unfolding day_number month_days month_length is_leap
last_is = rw last_year
