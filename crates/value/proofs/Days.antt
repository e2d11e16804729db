-- Laws of the calendar: the parts of a date; the days before a year and before a month, worked out directly.
use Prim.Native.Nat.{ℕ, zero, suc, ◌+◌, ◌-◌, ◌*◌, ◌/◌, ◌%◌, ◌≤◌, ◌<◌}
use mathlib.Core.Path.{◌≡◌, refl, sym, subst, ◌∙◌}
use mathlib.Core.Bool.{Bool, true, false, cond, not, ◌&&◌, ◌||◌}
use mathlib.Core.List.{List, [], ◌∷◌}
use native.Mathlib.Nat.{add-zero, add-div_right, mul-add-div_right, div-eq_of_lt, div-add-mod', mod-lt, zero-lt-suc}
use native.Mathlib.Omega.{arith}
use lib.Dec.{eqb, leb, eqb→eq, eqb-suc-zero, lit≤}
use lib.ListN.{get_or}
use mir.Val.{bool_byte}
use borrow.Author.Tests.{eqb-true, eq-eqb, le-leb, leb-true}
use Rattle.text.proofs.Bools.{bools, both, never}
use Rattle.text.proofs.Table.{at}
use Rattle.value.specs.Calendar.{is_leap, year_length, year_days, month_length, month_days, is_date}

-- The parts of a date.
pub record DateParts (year month day : ℕ) : Type 0 where
  pub low_year : 1 ≤ year
  pub high_year : year ≤ 9999
  pub low_month : 1 ≤ month
  pub high_month : month ≤ 12
  pub low_day : 1 ≤ day
  pub high_day : day ≤ month_length (is_leap year) month

pub date_parts : (y m d : ℕ) → is_date y m d ≡ true → DateParts y m d
unfolding is_date
date_parts y m d h =
    let a = both (leb 1 y && leb y 9999 && leb 1 m && leb m 12 && leb 1 d) (leb d (month_length (is_leap y) m)) h in
    let b = both (leb 1 y && leb y 9999 && leb 1 m && leb m 12) (leb 1 d) a.0 in
    let c = both (leb 1 y && leb y 9999 && leb 1 m) (leb m 12) b.0 in
    let e = both (leb 1 y && leb y 9999) (leb 1 m) c.0 in
    let f = both (leb 1 y) (leb y 9999) e.0 in
    record {
      low_year = leb-true 1 y f.0;
      high_year = leb-true y 9999 f.1;
      low_month = leb-true 1 m e.1;
      high_month = leb-true m 12 c.1;
      low_day = leb-true 1 d b.1;
      high_day = leb-true d (month_length (is_leap y) m) a.1;
    }

pub parts_date : (y m d : ℕ) → DateParts y m d → is_date y m d ≡ true
unfolding is_date
parts_date y m d p =
    rw (
      le-leb 1 y p.low_year,
      le-leb y 9999 p.high_year,
      le-leb 1 m p.low_month,
      le-leb m 12 p.high_month,
      le-leb 1 d p.low_day,
      le-leb d (month_length (is_leap y) m) p.high_day,
    )

-- ---- years

-- A year has at most 366 days, and so have the years before a year each.
year_length_small : (y : ℕ) → year_length y ≤ 366
year_length_small y = bools (is_leap y) (λ e. rw e (lit≤ tt)) (λ e. rw e (lit≤ tt))

pub year_small : (y : ℕ) → year_days y ≤ 366 * y
unfolding year_days
year_small zero = lit≤ tt
year_small (suc y) = omega (arith, year_small y, year_length_small y)

-- The numbers below y that suc k divides, 0 among them, are (y + k) / suc k. Where it divides y too, there is one more below suc y.
-- Here y is q times suc k and r.
rounded : (k q r : ℕ) → r < suc k → (q * suc k + r + k) / suc k + cond (eqb r 0) 1 0 ≡ q + 1
rounded k q zero h =
    let n : q * suc k + 0 + k ≡ q * suc k + k = omega arith in
    let e : k / suc k ≡ 0 = div-eq_of_lt (omega arith) in
    rw (n, mul-add-div_right (zero-lt-suc k) q k, e) (omega arith)
rounded k q (suc r) h =
    let n : q * suc k + suc r + k ≡ q * suc k + (r + suc k) = omega arith in
    let e : r / suc k ≡ 0 = div-eq_of_lt (omega arith) in
    rw (n, mul-add-div_right (zero-lt-suc k) q (r + suc k), add-div_right r (zero-lt-suc k), e, eqb-suc-zero r) (omega arith)

divided_more : (k y : ℕ) → (suc y + k) / suc k ≡ (y + k) / suc k + cond (eqb (y % suc k) 0) 1 0
divided_more k y =
    let n : suc y + k ≡ y + suc k = omega arith in
    rw (n, add-div_right y (zero-lt-suc k))
    (sym
    (subst (λ (x : ℕ). (x + k) / suc k + cond (eqb (y % suc k) 0) 1 0 ≡ y / suc k + 1) (div-add-mod' y (suc k))
    (rounded k (y / suc k) (y % suc k) (mod-lt y (zero-lt-suc k)))))

-- What 400 divides 100 divides, and what 100 divides 4 divides.
hundred_four : (y : ℕ) → eqb (y % 100) 0 ≡ true → eqb (y % 4) 0 ≡ true
hundred_four y e = eq-eqb (y % 4) 0 (omega (arith, eqb-true (y % 100) 0 e))

four_hundred : (y : ℕ) → eqb (y % 400) 0 ≡ true → eqb (y % 100) 0 ≡ true
four_hundred y e = eq-eqb (y % 100) 0 (omega (arith, eqb-true (y % 400) 0 e))

-- The sum with one year more, of numbers alone: p, q and r years before it are divided by 4, 100 and 400, and a, b and c say whether
-- it is.
one_year : (y days p q r : ℕ) (a b c : Bool) → (b ≡ true → a ≡ true) → (c ≡ true → b ≡ true) → q ≤ y → days ≡ 365 * y + p + r - q
    → days + cond (a && (not b || c)) 366 365 ≡ 365 * suc y + (p + cond a 1 0) + (r + cond c 1 0) - (q + cond b 1 0)
one_year y days p q r true true true i j h e = omega arith
one_year y days p q r true true false i j h e = omega arith
one_year y days p q r true false true i j h e = never (j refl)
one_year y days p q r true false false i j h e = omega arith
one_year y days p q r false true c i j h e = never (i refl)
one_year y days p q r false false true i j h e = never (j refl)
one_year y days p q r false false false i j h e = omega arith

hundreds_small : (y : ℕ) → (y + 99) / 100 ≤ y
hundreds_small y = omega arith

-- The days of the years before a year are 365 for each, one for each that 4 divides and one for each that 400 divides, less one for
-- each that 100 divides.
pub years_direct : (y : ℕ) → year_days y ≡ 365 * y + (y + 3) / 4 + (y + 399) / 400 - (y + 99) / 100
unfolding year_days is_leap
years_direct zero = refl
years_direct (suc y) =
    rw (divided_more 3 y, divided_more 399 y, divided_more 99 y)
    (one_year y (year_days y) ((y + 3) / 4) ((y + 99) / 100) ((y + 399) / 400) (eqb (y % 4) 0) (eqb (y % 100) 0) (eqb (y % 400) 0)
    (hundred_four y) (four_hundred y) (hundreds_small y) (years_direct y))

-- ---- months

-- A month has at most 31 days, and so have the first months each.
pub month_length_small : (leap : Bool) (m : ℕ) → month_length leap m ≤ 31
unfolding month_length
month_length_small leap m = cases (eqb m 2) leap (eqb m 4 || eqb m 6 || eqb m 9 || eqb m 11)
  where
    cases : (a b c : Bool) → cond a (cond b 29 28) (cond c 30 31) ≤ 31
    cases true true c = lit≤ tt
    cases true false c = lit≤ tt
    cases false b true = lit≤ tt
    cases false b false = lit≤ tt

pub month_small : (leap : Bool) (m : ℕ) → month_days leap m ≤ 31 * m
unfolding month_days
month_small leap zero = lit≤ tt
month_small leap (suc m) = omega (arith, month_small leap m, month_length_small leap (suc m))

-- The days before each month of a common year.
abbrev pub month_starts : List ℕ
month_starts = 0 ∷ 31 ∷ 59 ∷ 90 ∷ 120 ∷ 151 ∷ 181 ∷ 212 ∷ 243 ∷ 273 ∷ 304 ∷ 334 ∷ []

-- The entry after the first m of the table, and perhaps the leap day, are the days of the first m months.
is_start : Bool → ℕ → ℕ → Bool
is_start leap m start = eqb (start + cond (leap && leb 3 (m + 1)) 1 0) (month_days leap m)

starts_right : (leap : Bool) (m : ℕ) → m < 12 → get_or month_starts m 0 + cond (leap && leb 3 (m + 1)) 1 0 ≡ month_days leap m
unfolding is_start month_days month_length
starts_right true m h = eqb→eq _ _ (at (is_start true) month_starts tt m h)
starts_right false m h = eqb→eq _ _ (at (is_start false) month_starts tt m h)

-- The days of the months before a month are its entry in the table, and one more from March on in a leap year.
pub months_direct : (leap : Bool) (month : ℕ) → 1 ≤ month → month ≤ 12
    → get_or month_starts (month - 1) 0 + cond (leap && leb 3 month) 1 0 ≡ month_days leap (month - 1)
months_direct leap month low high =
    let e : month - 1 + 1 ≡ month = omega arith in rw e at (starts_right leap (month - 1) (omega arith))

pub with_leap_day : (leap : Bool) (month : ℕ) → 1 ≤ month → month ≤ 12 → leap && leb 3 month ≡ true
    → get_or month_starts (month - 1) 0 + 1 ≡ month_days leap (month - 1)
with_leap_day leap month low high e = rw e at (months_direct leap month low high)

pub without_leap_day : (leap : Bool) (month : ℕ) → 1 ≤ month → month ≤ 12 → leap && leb 3 month ≡ false
    → get_or month_starts (month - 1) 0 ≡ month_days leap (month - 1)
without_leap_day leap month low high e = sym (add-zero _) ∙ rw e at (months_direct leap month low high)

-- The leap day as the code counts it.
pub months_counted : (leap : Bool) (month : ℕ) → 1 ≤ month → month ≤ 12
    → get_or month_starts (month - 1) 0 + bool_byte (leap && leb 3 month) ≡ month_days leap (month - 1)
months_counted leap month low high =
    let direct = months_direct leap month low high in
    bools (leap && leb 3 month) (λ q. rw q (rw q at direct)) (λ q. rw q (rw q at direct))
