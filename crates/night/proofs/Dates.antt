-- Every day number from that of the first date on to that of the last is that of a date, and no date has another.
use mathlib.Core.Path.{◌≡◌, refl, sym, ap}
use mathlib.Core.Bool.{Bool, true, false, cond}
use Prim.Native.Nat.{ℕ, zero, suc, ◌+◌, ◌-◌, ◌≤◌, ◌<◌}
use native.Mathlib.Omega.{arith}
use lib.Dec.{leb, ltb}
use lib.IntN.{ℤ, pos, negsuc, sub_ℕ}
use lib.Signed.{mag}
use borrow.Author.Tests.{le-leb, leb-true, ltb-true, ltb-false, lt-ltb, le-ltb}
use Rattle.text.proofs.Bools.{bools, both}
use Rattle.value.proofs.Days.{DateParts, date_parts, parts_date}
use Rattle.value.specs.Calendar.{is_leap, year_length, year_days, month_length, month_days, is_date, day_number}
use Rattle.night.specs.Record.{is_day}
use Rattle.night.proofs.DayLimits.{first_is, last_is, years}

-- Days before a month and before a year.
month_next : (l : Bool) (m : ℕ) → month_days l (suc m) ≡ month_days l m + month_length l (suc m)
unfolding month_days
month_next l m = refl

no_months : (l : Bool) → month_days l 0 ≡ 0
unfolding month_days
no_months l = refl

all_months : (l : Bool) → month_days l 12 ≡ cond l 366 365
unfolding month_days month_length
all_months true = refl
all_months false = refl

year_next : (y : ℕ) → year_days (suc y) ≡ year_days y + year_length y
unfolding year_days
year_next y = refl

first_year : year_days 1 ≡ 366
unfolding year_days is_leap
first_year = refl

-- Where a number lies among the values of a function.
record Between (f : ℕ → ℕ) (n top : ℕ) : Type 0 where
  pub place : ℕ
  pub inside : place < top
  pub low : f place < n
  pub high : n ≤ f (suc place)

between : (f : ℕ → ℕ) (n top : ℕ) → f 0 < n → n ≤ f top → Between f n top
between f n zero a b = absurd (omega arith)
between f n (suc top) a b =
    bools (ltb (f top) n)
    (λ h. record { place = top; inside = omega arith; low = ltb-true (f top) n h; high = b })
    (λ h.
    let r = between f n top a (ltb-false (f top) n h) in
    record { place = r.place; inside = omega (arith, r.inside); low = r.low; high = r.high })

-- A day number as a number of days from the start of year 0.
record Counted (z : ℤ) : Type 0 where
  pub count : ℕ
  pub is : z ≡ sub_ℕ count 678942
  pub low : 367 ≤ count
  pub high : count ≤ 3652425

counted : (z : ℤ) → is_day z ≡ true → Counted z
unfolding is_day
counted (pos a) h =
    let b = leb-true a 2973483 (rw (first_is, last_is) at h) in
    let e : a ≡ a + 678942 - 678942 = omega arith in
    record { count = a + 678942; is = rw (le-ltb (a + 678942) 678942 (omega arith)) (ap pos e); low = omega arith; high = omega arith }
counted (negsuc a) h =
    let b = leb-true a 678574 (both (leb a 678574) true (rw (first_is, last_is) at h)).0 in
    let e : a ≡ 678942 - suc (678942 - suc a) = omega arith in
    record { count = 678942 - suc a; is = rw (lt-ltb (678942 - suc a) 678942 (omega arith)) (ap negsuc e); low = omega arith; high = omega arith }

-- Every day number in the range is that of a date.
pub record DayOf (z : ℤ) : Type 0 where
  pub year : ℕ
  pub month : ℕ
  pub day : ℕ
  pub date : is_date year month day ≡ true
  pub is : day_number year month day ≡ z

date_of : (n : ℕ) (z : ℤ) → z ≡ sub_ℕ n 678942 → 367 ≤ n → n ≤ 3652425 → DayOf z
unfolding day_number
date_of n z e a b =
    let y = between (λ (k : ℕ). year_days (suc k)) n 9999 (omega (arith, first_year)) (omega (arith, years)) in
    let year : ℕ = suc y.place in
    let l : Bool = is_leap year in
    let m =
    between (λ (k : ℕ). year_days year + month_days l k) n 12 (omega (arith, y.low, no_months l)) (omega (arith, y.high, year_next year, all_months l)) in
    let month : ℕ = suc m.place in
    let start : ℕ = year_days year + month_days l m.place in
    let parts : DateParts year month (n - start) = record {
      low_year = omega arith;
      high_year = omega (arith, y.inside);
      low_month = omega arith;
      high_month = omega (arith, m.inside);
      low_day = omega (arith, m.low);
      high_day = omega (arith, m.high, month_next l m.place);
    } in
    let s : month - 1 ≡ m.place = omega arith in
    let sum : start + (n - start) ≡ n = omega (arith, m.low) in
    record { year = year; month = month; day = n - start; date = parts_date year month (n - start) parts; is = rw (s, sum) (sym e) }

pub day_date : (z : ℤ) → is_day z ≡ true → DayOf z
day_date z h = let c = counted z h in date_of c.count z c.is c.low c.high

-- Every date's day number is in the range.
year_up : (k y : ℕ) → year_days y ≤ year_days (y + k)
year_up zero y = let e : y + 0 ≡ y = omega arith in rw e (omega arith)
year_up (suc k) y = let e : y + suc k ≡ suc (y + k) = omega arith in rw e (omega (arith, year_up k y, year_next (y + k)))

month_up : (l : Bool) (k m : ℕ) → month_days l m ≤ month_days l (m + k)
month_up l zero m = let e : m + 0 ≡ m = omega arith in rw e (omega arith)
month_up l (suc k) m = let e : m + suc k ≡ suc (m + k) = omega arith in rw e (omega (arith, month_up l k m, month_next l (m + k)))

date_count : (y m d : ℕ) → DateParts y m d
    → (367 ≤ year_days y + month_days (is_leap y) (m - 1) + d) × (year_days y + month_days (is_leap y) (m - 1) + d ≤ 3652425)
date_count y m d p =
    let l : Bool = is_leap y in
    let m-is : suc (m - 1) ≡ m = omega (arith, p.low_month) in
    let n : month_days l m ≡ month_days l (m - 1) + month_length l m = rw m-is at (month_next l (m - 1)) in
    let to-month : m + (12 - m) ≡ 12 = omega (arith, p.high_month) in
    let m-up : month_days l m ≤ month_days l 12 = rw to-month at (month_up l (12 - m) m) in
    let to-year : suc y + (9999 - y) ≡ 10000 = omega (arith, p.high_year) in
    let y-up : year_days (suc y) ≤ year_days 10000 = rw to-year at (year_up (9999 - y) (suc y)) in
    let from-year : 1 + (y - 1) ≡ y = omega (arith, p.low_year) in
    let y-down : year_days 1 ≤ year_days y = rw from-year at (year_up (y - 1) 1) in
    (omega (arith, p.low_day, first_year), omega (arith, p.high_day, all_months l, year_next y, years))

in_range_lem : (n : ℕ) → 367 ≤ n → n ≤ 3652425 → is_day (sub_ℕ n 678942) ≡ true
unfolding is_day
in_range_lem n a b =
    rw (first_is, last_is)
    (bools (ltb n 678942)
    (λ p. rw (p, le-leb (678942 - suc n) 678574 (omega arith)))
    (λ p. let q = ltb-false n 678942 p in rw p (le-leb (n - 678942) 2973483 (omega arith))))

pub date_day : (y m d : ℕ) → is_date y m d ≡ true → is_day (day_number y m d) ≡ true
unfolding day_number
date_day y m d h =
    let c = date_count y m d (date_parts y m d h) in in_range_lem (year_days y + month_days (is_leap y) (m - 1) + d) c.0 c.1

-- A day fits 32 bits.
pub day_fits : (z : ℤ) → is_day z ≡ true → mag z < 2147483648
unfolding is_day
day_fits (pos a) h = omega (arith, leb-true a 2973483 (rw (first_is, last_is) at h))
day_fits (negsuc a) h = omega (arith, leb-true a 678574 (both (leb a 678574) true (rw (first_is, last_is) at h)).0)
