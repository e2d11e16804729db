-- `value::calendar::Date::day_number` meets its contract.
use Prim.Native.Nat.{◌+◌, ◌-◌, ◌≤◌}
use lib.Dec.{lit≤}
use mathlib.Core.Path.{◌∙◌}
use native.Mathlib.Omega.{arith}
use Rattle.value.proofs.Days.{date_parts, month_length_small, month_small, year_small}
use Rattle.value.proofs.Signs.{less_is}
use Rattle.value.specs.Calendar.{day_number, is_leap}
use Rattle.value.proofs.calendar.Date.day_number.Goals as goal
use Rattle.value.proofs.calendar.Date.day_number.Goals.{After-month_days}

small : (c : After-month_days) → c.year_days.result + c.month_days.result + c.args.self.day ≤ 3663000
small c =
    let args = c.args in
    let parts = date_parts args.self.year args.self.month args.self.day c.requires in
    let years = year_small args.self.year in
    let months = month_small c.is_leap.result (args.self.month - 1) in
    let days = month_length_small (is_leap args.self.year) args.self.month in
    omega (arith, c.year_days.ensures, years, c.month_days.ensures, months, days, parts.high_year, parts.high_month, parts.high_day)

pub returns : goal.returns
unfolding day_number
returns c =
    let year-days = c.year_days in
    let month-days = c.month_days in
    let args = c.args in
    less_is (year-days.result + month-days.result + args.self.day) 678941 (omega (arith, small (goal.at.returns c).After-month_days)) (lit≤ tt)
    ∙ rw (month-days.ensures, c.is_leap.ensures, year-days.ensures)
