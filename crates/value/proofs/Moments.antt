-- Laws of times: their digits by twos, and how large the fraction of a second is.
use Prim.Native.Nat.{ℕ, zero, suc, ◌+◌, ◌-◌, ◌*◌, ◌≤◌, ◌<◌}
use mathlib.Core.Path.{◌≡◌, refl, ap, ◌∙◌}
use mathlib.Core.Bool.{true}
use mathlib.Core.List.{List, [], ◌∷◌}
use native.Mathlib.Nat.{le_trans, le_of_lt, mul-le-mul_left, mul-le-mul_right}
use native.Mathlib.Omega.{arith}
use native.Mathlib.Numerals.{add-one}
use lib.ListN.{length, get_or, take, drop}
use lib.Seq.{drop-cons, take-add}
use Rattle.text.specs.Bytes.{bytes}
use Rattle.text.specs.Class.{is_digit}
use Rattle.text.specs.Digits.{after, number}
use Rattle.text.specs.Part.{matches, starts}
use Rattle.text.proofs.Bools.{both, never}
use Rattle.text.proofs.Classes.{digit_range}
use Rattle.text.proofs.Numbers.{pow_below}
use Rattle.value.specs.Check.{TwoDigits}
use Rattle.value.specs.Numeral.{digits, part}
use Rattle.value.specs.Time.{is_time, is_time_end, fraction}
use Rattle.value.proofs.Numerals.{part_below, number_append}

-- Six digits, and six zeros after them at most.
pub fraction_small : (s : List ℕ) → fraction s ≤ 1000000000000
unfolding fraction
fraction_small s =
    le_trans (mul-le-mul_right _ (le_of_lt (part_below 20 6 s)))
    (mul-le-mul_left 1000000 (pow_below (6 - digits (drop 20 s)) 6 (omega arith)))

-- A text that starts in a shape matches it at each place.
starts_at : (shape s : List ℕ) (i : ℕ) → starts shape s ≡ true → i < length shape → (i < length s) × (matches (get_or shape i 0) (get_or s i 0) ≡ true)
unfolding starts
starts_at [] s i e h = absurd (omega arith)
starts_at (p ∷ shape) [] i e h = never e
starts_at (p ∷ shape) (b ∷ s) zero e h = (omega arith, (both (matches p b) (starts shape s) e).0)
starts_at (p ∷ shape) (b ∷ s) (suc i) e h =
    let r = starts_at shape s i (both (matches p b) (starts shape s) e).1 (omega arith) in (omega (arith, r.0), r.1)

-- Where the form of a time has two digits, there they are.
time_two : (s : List ℕ) (from : ℕ) → is_time s ≡ true → from + 1 < 19
    → get_or (bytes "dddd-dd-ddTdd:dd:dd") from 0 ≡ 100 → get_or (bytes "dddd-dd-ddTdd:dd:dd") (from + 1) 0 ≡ 100 → TwoDigits s from
unfolding is_time
time_two s from e h p q =
    let shape = bytes "dddd-dd-ddTdd:dd:dd" in
    let t = (both (starts shape s) (is_time_end (drop 19 s)) e).0 in
    let a = starts_at shape s from t (omega arith) in
    let b = starts_at shape s (from + 1) t (omega arith) in
    record { inside = b.0; tens = rw p at a.1; ones = rw q at b.1 }

pub record TimeDigits (s : List ℕ) : Type 0 where
  pub century : TwoDigits s 0
  pub year : TwoDigits s 2
  pub month : TwoDigits s 5
  pub day : TwoDigits s 8
  pub hour : TwoDigits s 11
  pub minute : TwoDigits s 14
  pub second : TwoDigits s 17

pub time_digits : (s : List ℕ) → is_time s ≡ true → TimeDigits s
time_digits s e = record {
  century = time_two s 0 e (omega arith) refl refl;
  year = time_two s 2 e (omega arith) refl refl;
  month = time_two s 5 e (omega arith) refl refl;
  day = time_two s 8 e (omega arith) refl refl;
  hour = time_two s 11 e (omega arith) refl refl;
  minute = time_two s 14 e (omega arith) refl refl;
  second = time_two s 17 e (omega arith) refl refl;
}

-- Two digits put after a number.
number_two : (n x y : ℕ) → is_digit x ≡ true → is_digit y ≡ true → number n (x ∷ y ∷ []) ≡ n * 100 + ((x - 48) * 10 + (y - 48))
unfolding number after
number_two n x y p q = rw (p, q) (omega (arith, digit_range x p, digit_range y q))

module _ (s : List ℕ) (from : ℕ) (two : TwoDigits s from) where
  both_are : take 2 (drop from s) ≡ get_or s from 0 ∷ get_or s (from + 1) 0 ∷ []
  both_are =
      let h : from < length s = omega (arith, two.inside) in
      let k : suc from < length s = omega (arith, two.inside) in
      rw (add-one, drop-cons s from 0 h, drop-cons s (suc from) 0 k)

  pub two_is : (get_or s from 0 - 48) * 10 + (get_or s (from + 1) 0 - 48) ≡ part from 2 s
  unfolding part
  two_is = rw both_are (omega (arith, number_two 0 (get_or s from 0) (get_or s (from + 1) 0) two.tens two.ones))

-- The four digits of a year, by twos.
pub four_is : (s : List ℕ) → TwoDigits s 2 → part 0 2 s * 100 + part 2 2 s ≡ part 0 4 s
unfolding part
four_is s two =
    let n = number 0 (take 2 s) in
    let e : number n (take 2 (drop 2 s)) ≡ n * 100 + ((get_or s 2 0 - 48) * 10 + (get_or s 3 0 - 48)) =
    ap (number n) (both_are s 2 two) ∙ number_two n (get_or s 2 0) (get_or s 3 0) two.tens two.ones in
    let f : (get_or s 2 0 - 48) * 10 + (get_or s 3 0 - 48) ≡ number 0 (take 2 (drop 2 s)) = two_is s 2 two in
    let g : number 0 (take 4 s) ≡ number n (take 2 (drop 2 s)) = ap (number 0) (take-add 2 2 s) ∙ number_append 0 (take 2 s) (take 2 (drop 2 s)) in
    omega arith
