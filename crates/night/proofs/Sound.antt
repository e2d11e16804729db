-- The fields of an accepted optical observation are within their ranges.
use Prim.Native.Nat.{ℕ, zero, suc, ◌+◌, ◌-◌, ◌*◌, ◌^◌, ◌≤◌, ◌<◌}
use mathlib.Core.Path.{◌≡◌, refl, ap, sym, ◌∙◌}
use mathlib.Core.Bool.{Bool, true, false, cond, ◌&&◌}
use mathlib.Core.List.{List, [], ◌∷◌, ◌++◌}
use native.Mathlib.Nat.{zero-mul, mul-lt-mul_of_pos_right}
use native.Mathlib.Omega.{arith}
use lib.Dec.{leb, eqb, ltb}
use lib.IntN.{ℤ, pos}
use lib.ListN.{length, get_or, take, drop}
use lib.Pow.{pow-add}
use lib.Seq.{drop-drop, take-add, take-nil}
use borrow.Author.Tests.{leb-true, ltb-true, eqb-true}
use Rattle.text.specs.Bytes.{bytes}
use Rattle.text.specs.Class.{is_only}
use Rattle.text.specs.Digits.{after, number}
use Rattle.text.specs.Part.{same, starts}
use Rattle.text.specs.declared.class.Class.TheVariants.{Alphanumeric}
use Rattle.text.proofs.Bools.{bools, both, never}
use Rattle.text.proofs.Numbers.{number_small, pow_below}
use Rattle.text.proofs.Parts.{same_is, take_below}
use Rattle.refusal.specs.declared.Kind.{Kind}
use Rattle.refusal.specs.declared.Kind.TheVariants.{ElementMissing, WrongForm, OutOfRange, TooWide}
use Rattle.refusal.specs.declared.Fault.{Fault}
use Rattle.refusal.specs.Paper.{at}
use Rattle.value.specs.Angle.{is_degrees, is_right_ascension, units, right_ascension, declination}
use Rattle.value.specs.Calendar.{is_date, is_clock}
use Rattle.value.specs.Characters.{is_long, alphanumeric}
use Rattle.value.specs.Numeral.{digits, part}
use Rattle.value.specs.Sign.{is_minus, bare, with_sign}
use Rattle.value.specs.Time.{is_fraction, is_time_end, is_time, is_moment, day_of, fraction, microseconds, obs_time}
use Rattle.value.specs.declared.Value.{Value}
use Rattle.value.proofs.Numerals.{number_append}
use Rattle.element.specs.Form.{value_of, fault_of}
use Rattle.element.specs.Observation.{Observation, is_present, value_at, is_held, holds_any, first_missing, identification, needed, missing_at, group_fault, optical_fault, is_radar, is_wgs84, is_earth, observation_fault}
use Rattle.value.specs.Check.{less_value}
use Rattle.std.specs.Prelude.{Result, Ok, Err}
use Rattle.element.proofs.Observations.{optical_sound}
use Rattle.report.specs.Report.{row_limit, accepted, read}
use Rattle.layout.proofs.Accepted.{RightValue, Right, AllRight, accepted_right, accepted_rows}
use Rattle.night.specs.Record.{fields_in, is_day}
use Rattle.night.proofs.Dates.{date_day}
use Rattle.night.proofs.RecordLaws.{Station}
use Rattle.night.proofs.Within.{Ascension, Declination, Within}

-- What an accepted value is worth.
present_fine : (c : ℕ) (v : List ℕ) → fault_of c v ≡ Ok tt → is_present v ≡ true → less_value (value_of c v) ≡ Ok tt
unfolding fault_of
present_fine c [] f p = never p
present_fine c (b ∷ v) f p = f

-- A value of a form and within a limit passed both tests.
passed : (a b : Bool) (value : Value) (p q : Kind) → less_value (cond a (cond b (Ok value) (Err p)) (Err q)) ≡ Ok tt → (a ≡ true) × (b ≡ true)
passed true true value p q e = (refl, refl)
passed true false value p q e = cc
passed false b value p q e = cc

station_sound : (v : List ℕ) → RightValue 7 v → is_present v ≡ true → Station v
unfolding value_of alphanumeric
station_sound v r p =
    let t = passed (is_only Alphanumeric v) (is_long 3 4 v) Value.NoValue TooWide WrongForm (present_fine 7 v r.fine p) in
    let c = both (leb 3 (length v)) (leb (length v) 4) t.1 in
    record { only = t.0; low = leb-true 3 (length v) c.0; high = leb-true (length v) 4 c.1; trimmed = r.trimmed }

-- The fraction of a second is below one second.
number_z : (n j : ℕ) → number n (take j (90 ∷ [])) ≡ n
unfolding number after
number_z n zero = refl
number_z n (suc j) = rw (take-nil {A = ℕ} j)

digits_then : (t : List ℕ) (k : ℕ) → k ≤ 6 → drop k t ≡ 90 ∷ [] → number 0 (take 6 t) * 10 ^ (6 - k) < 1000000
digits_then t k h e =
    let six : k + (6 - k) ≡ 6 = omega arith in
    let split : take 6 t ≡ take k t ++ take (6 - k) (90 ∷ []) =
    ap (λ (n : ℕ). take n t) (sym six) ∙ take-add k (6 - k) t ∙ ap (λ (l : List ℕ). take k t ++ take (6 - k) l) e in
    let same_number : number 0 (take 6 t) ≡ number 0 (take k t) =
    ap (number 0) split ∙ number_append 0 (take k t) (take (6 - k) (90 ∷ [])) ∙ number_z (number 0 (take k t)) (6 - k) in
    let small : number 0 (take k t) < 10 ^ k = number_small (take k t) k (take_below k t) in
    let ten : 10 ^ k * 10 ^ (6 - k) ≡ 1000000 = sym (pow-add 10 k (6 - k)) ∙ ap (λ (n : ℕ). 10 ^ n) six in
    rw same_number (rw ten at (mul-lt-mul_of_pos_right small (pow_below 0 (6 - k) (omega arith))))

fraction_below : (s : List ℕ) → is_time s ≡ true → fraction s < 1000000
unfolding is_time is_time_end is_fraction fraction part
fraction_below s h =
    let e = (both (starts (bytes "dddd-dd-ddTdd:dd:dd") s) (is_time_end (drop 19 s)) h).1 in
    let twenty : drop 1 (drop 19 s) ≡ drop 20 s = drop-drop 1 19 s in
    bools (same (drop 19 s) (bytes "Z"))
    (λ a.
    let none : drop 20 s ≡ [] = sym twenty ∙ ap (λ (l : List ℕ). drop 1 l) (same_is (drop 19 s) (bytes "Z") a) in
    rw none (nothing (10 ^ (6 - digits []))))
    (λ a.
    let f : is_fraction (drop 1 (drop 19 s)) ≡ true = (both (eqb (get_or (drop 19 s) 0 0) 46) (is_fraction (drop 1 (drop 19 s))) (rw a at e)).1 in
    let t : List ℕ = drop 20 s in
    let g : is_fraction t ≡ true = rw twenty at f in
    let p = both (leb 1 (digits t) && leb (digits t) 6) (same (drop (digits t) t) (bytes "Z")) g in
    let q = both (leb 1 (digits t)) (leb (digits t) 6) p.0 in
    digits_then t (digits t) (leb-true (digits t) 6 q.1) (same_is (drop (digits t) t) (bytes "Z") p.1))
  where
    nothing : (n : ℕ) → number 0 [] * n < 1000000
    nothing n = unfold number in rw (zero-mul n) (omega arith)

-- A time's day is in the range, and its microseconds are below a day's.
record Moment (v : List ℕ) : Type 0 where
  pub day : ℤ
  pub time : ℕ
  pub is : value_of 14 v ≡ Ok (Value.Time day time)
  pub day_in_lem : is_day day ≡ true
  pub time_in : time < 86400000000

clock_below : (h m s f : ℕ) → is_clock h m s ≡ true → f < 1000000 → ((h * 60 + m) * 60 + s) * 1000000 + f < 86400000000
clock_below h m s f c b =
    let p = both (leb h 23 && leb m 59) (leb s 59) c in
    let q = both (leb h 23) (leb m 59) p.0 in
    let x = leb-true h 23 q.0 in
    let y = leb-true m 59 q.1 in
    let z = leb-true s 59 p.1 in
    omega arith

moment_sound : (v : List ℕ) → RightValue 14 v → is_present v ≡ true → Moment v
unfolding value_of obs_time is_moment day_of microseconds
moment_sound v r p =
    let t = passed (is_time v) (is_moment v) (Value.Time (day_of v) (microseconds v)) OutOfRange WrongForm (present_fine 14 v r.fine p) in
    let c = both (is_date (part 0 4 v) (part 5 2 v) (part 8 2 v)) (is_clock (part 11 2 v) (part 14 2 v) (part 17 2 v)) t.1 in
    record {
      day = day_of v;
      time = microseconds v;
      is = rw (t.0, t.1);
      day_in_lem = date_day (part 0 4 v) (part 5 2 v) (part 8 2 v) c.0;
      time_in = clock_below (part 11 2 v) (part 14 2 v) (part 17 2 v) (fraction v) c.1 (fraction_below v t.0);
    }

-- ra and dec are in their ranges.
record Position (P : ℤ → Type 0) (c : ℕ) (v : List ℕ) : Type 0 where
  pub units : ℤ
  pub is : value_of c v ≡ Ok (Value.Angle units)
  pub within : P units

ascension_sound : (v : List ℕ) → RightValue 16 v → is_present v ≡ true → Position Ascension 16 v
unfolding value_of right_ascension
ascension_sound v r p =
    let u : ℕ = units v in
    let t = passed (is_right_ascension v) (ltb u 360000000000) (Value.Angle (pos u)) OutOfRange WrongForm (present_fine 16 v r.fine p) in
    record { units = pos u; is = rw (t.0, t.1); within = record { units = u; is = refl; below = ltb-true u 360000000000 t.1 } }

signed_within : (minus : Bool) (u : ℕ) → u ≤ 90000000000 → Declination (with_sign minus u)
unfolding with_sign
signed_within true zero h = omega arith
signed_within true (suc u) h = h
signed_within false u h = h

declination_sound : (v : List ℕ) → RightValue 17 v → is_present v ≡ true → Position Declination 17 v
unfolding value_of declination
declination_sound v r p =
    let u : ℕ = units (bare true v) in
    let z : ℤ = with_sign (is_minus v) u in
    let t = passed (is_degrees 2 (bare true v)) (leb u 90000000000) (Value.Angle z) OutOfRange WrongForm (present_fine 17 v r.fine p) in
    record { units = z; is = rw (t.0, t.1); within = signed_within (is_minus v) u (leb-true u 90000000000 t.1) }

-- A sound optical observation holds what it needs.
abbrev Held : List ℕ → (ℕ → Bool) → Type 0
Held [] holds = Unit
Held (n ∷ ns) holds = (holds n ≡ true) × Held ns holds

abbrev positive : List ℕ → Bool
positive [] = true
positive (n ∷ ns) = ltb 0 n && positive ns

all_held : (ns : List ℕ) (holds : ℕ → Bool) → positive ns ≡ true → first_missing ns holds ≡ 0 → Held ns holds
unfolding first_missing
all_held [] holds p e = tt
all_held (n ∷ ns) holds p e =
    let q = both (ltb 0 n) (positive ns) p in
    bools (holds n)
    (λ h. (h, all_held ns holds q.1 (rw h at e)))
    (λ h. let z : n ≡ 0 = rw h at e in absurd (omega (arith, ltb-true 0 n q.0)))

sound_none : (t : Bool) (n : ℕ) (rest : Result Unit Fault) → cond t (missing_at ElementMissing n rest) (Err (at ElementMissing 1)) ≡ Ok tt → n ≡ 0
sound_none true n rest e =
    bools (eqb n 0)
    (λ q. eqb-true n 0 q)
    (λ q. let b = rw q at e in cc)
sound_none false n rest e = cc

needed_held : (o : Observation) → is_radar o ≡ false → observation_fault o ≡ Ok tt → Held needed (is_held o)
unfolding optical_fault
needed_held o optical e =
    all_held needed (is_held o) refl
    (sound_none (holds_any identification (is_held o)) (first_missing needed (is_held o)) (group_fault (is_held o) (is_wgs84 o) (is_earth o))
    (optical_sound o optical e))

-- The fields of an optical observation as it is accepted.
fields_within : (n : ℕ) (o : Observation) → 1 ≤ n → n ≤ row_limit → is_radar o ≡ false → Right o → Within (fields_in n o)
unfolding fields_in
fields_within n o a b optical r =
    let h = needed_held o optical r.sound in
    let m = moment_sound (value_at 15 o) (r.values 14) h.1.1.0 in
    let x = ascension_sound (value_at 17 o) (r.values 16) h.1.1.1.0 in
    let y = declination_sound (value_at 18 o) (r.values 17) h.1.1.1.1.0 in
    record {
      first = a;
      last = b;
      station = station_sound (value_at 8 o) (r.values 7) h.1.0;
      day = rw m.is m.day_in_lem;
      microseconds = rw m.is m.time_in;
      ra = rw x.is x.within;
      dec = rw y.is y.within;
    }

-- An observation of a list of right ones is right.
right_of : (os : List Observation) (i : ℕ) → AllRight os → i < length os → Right (get_or os i [])
right_of [] i r h = absurd (omega arith)
right_of (o ∷ os) zero r h = r.0
right_of (o ∷ os) (suc i) r h = right_of os i r.1 (omega arith)

-- So the fields of every optical observation of an accepted report are within their ranges.
pub accepted_within : (report : List ℕ) (os : List Observation) (n : ℕ) → read report ≡ accepted os → 1 ≤ n → n ≤ length os
    → is_radar (get_or os (n - 1) []) ≡ false → Within (fields_in n (get_or os (n - 1) []))
accepted_within report os n e first last optical =
    let few = accepted_rows report os e in
    fields_within n (get_or os (n - 1) []) first (omega arith) optical (right_of os (n - 1) (accepted_right report os e) (omega arith))
