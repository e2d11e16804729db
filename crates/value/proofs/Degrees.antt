-- Laws of degrees: how long their text is, and how large they are in units.
use Prim.Native.Nat.{ℕ, ◌+◌, ◌-◌, ◌*◌, ◌^◌, ◌≤◌, ◌<◌}
use mathlib.Core.Path.{◌≡◌, ap, sym, ◌∙◌}
use mathlib.Core.Bool.{true, ◌&&◌, ◌||◌}
use mathlib.Core.List.{List}
use native.Mathlib.Nat.{lt_of_lt_of_le, mul_assoc, mul-le-mul_right, mul-lt-mul_of_pos_right}
use native.Mathlib.Omega.{arith}
use lib.Dec.{eqb, leb, ltb}
use lib.ListN.{length, get_or, take, drop, take-append-drop}
use lib.Pow.{pow-add}
use borrow.Author.Tests.{leb-true}
use Rattle.text.specs.Digits.{number}
use Rattle.text.proofs.Bools.{both}
use Rattle.text.proofs.Numbers.{number_front, number_scaled, pow_below}
use Rattle.value.specs.Angle.{is_degrees, is_right_ascension, units}
use Rattle.value.specs.Decimal.{is_decimal, places}
use Rattle.value.specs.Numeral.{digits, no_leading_zero, part}
use Rattle.value.proofs.Numerals.{number_append, number_places}

-- Degrees have few digits and at most nine places.
pub degrees_small : (most : ℕ) (s : List ℕ) → is_degrees most s ≡ true → (digits s ≤ most) × (places s ≤ 9)
unfolding is_degrees
degrees_small most s e =
    let p = (both (is_decimal s && leb (digits s) most && leb (places s) 9) (eqb (digits s) 1 || no_leading_zero s) e).0 in
    let q = both (is_decimal s && leb (digits s) most) (leb (places s) 9) p in
    (leb-true (digits s) most (both (is_decimal s) (leb (digits s) most) q.0).1, leb-true (places s) 9 q.1)

-- A right ascension has at most three digits and nine places.
pub ascension_small : (s : List ℕ) → is_right_ascension s ≡ true → (digits s ≤ 3) × (places s ≤ 9)
unfolding is_right_ascension
ascension_small s e = degrees_small 3 s (both (is_degrees 3 s) (ltb (digits s) 3 || ltb (get_or s 0 0) 52) e).0

-- Digits, a point and places are all there is.
pub degrees_length : (s : List ℕ) → length s ≤ digits s + 1 + places s
unfolding places
degrees_length s = omega arith

-- The first 18 bytes of degrees are all of them.
pub units_front : (s : List ℕ) → digits s ≤ 3 → places s ≤ 9 → number 0 (take 18 s) * 10 ^ (9 - places s) ≡ units s
unfolding units
units_front s h k = rw (number_front s (omega (arith, degrees_length s)))

-- Three digits and nine places are at most 13 digits.
pub units_small : (s : List ℕ) → digits s ≤ 3 → places s ≤ 9 → units s ≤ 10000000000000
unfolding units
units_small s h k = number_scaled s (9 - places s) 13 (omega (arith, degrees_length s))

-- Degrees whose integer part is below a limit are below it.
pub units_below : (s : List ℕ) (limit : ℕ) → places s ≤ 9 → part 0 (digits s) s < limit → units s < limit * 1000000000
unfolding units places part
units_below s limit few h =
    let p = number 0 (take (digits s) s) in
    let k = length s - digits s - 1 in
    let whole : number 0 s ≡ number p (drop (digits s) s) =
    ap (number 0) (sym (take-append-drop (digits s) s)) ∙ number_append 0 (take (digits s) s) (drop (digits s) s) in
    let small : number 0 s < (p + 1) * 10 ^ k = rw whole (number_places p s) in
    let nine : k + (9 - k) ≡ 9 = omega arith in
    let at_most : p + 1 ≤ limit = omega (arith, h) in
    let e : (p + 1) * 10 ^ k * 10 ^ (9 - k) ≡ (p + 1) * 1000000000 =
    mul_assoc (p + 1) (10 ^ k) (10 ^ (9 - k)) ∙ ap (λ (x : ℕ). (p + 1) * x) (sym (pow-add 10 k (9 - k)) ∙ ap (λ (x : ℕ). 10 ^ x) nine) in
    lt_of_lt_of_le (rw e at (mul-lt-mul_of_pos_right small (pow_below 0 (9 - k) (omega arith)))) (mul-le-mul_right 1000000000 at_most)
