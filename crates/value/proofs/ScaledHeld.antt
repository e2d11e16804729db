-- What the value of a covariance can be: its parts lose nothing of its whole number, each is below 10,000,000,000, and its power lies from
-- -1,013 to 999. Both ends are reached. The sign of zero is plus.
use Prim.Native.Nat.{ℕ, zero, suc, ◌+◌, ◌-◌, ◌*◌, ◌/◌, ◌%◌, ◌≤◌, ◌<◌}
use mathlib.Core.Path.{◌≡◌, refl, ap, ◌∙◌, sym}
use mathlib.Core.Bool.{Bool, true, false, ◌&&◌, ◌||◌}
use mathlib.Core.List.{List, [], ◌∷◌}
use native.Mathlib.Omega.{arith}
use lib.Dec.{eqb, leb, ltb}
use lib.IntN.{ℤ, pos, negsuc, sub_ℕ, ◌-ℤ◌}
use lib.ListN.{length, drop, length-take, length-drop}
use borrow.Author.Tests.{eqb-true, leb-true, ltb-true, ltb-false}
use Rattle.std.specs.Prelude.{Result, Ok}
use Rattle.refusal.specs.declared.Kind.{Kind}
use Rattle.text.specs.Bytes.{bytes}
use Rattle.text.specs.Class.{leading, is_only}
use Rattle.text.specs.Digits.{after, number}
use Rattle.text.proofs.Bools.{bools, both}
use Rattle.text.proofs.Numbers.{number_small}
use Rattle.value.specs.Check.{less_value}
use Rattle.value.specs.Covariance.{before_mark, mantissa, exponent, is_exponent, is_scaled, size, power, scaled_as, covariance}
use Rattle.value.specs.Decimal.{is_pointed, is_decimal, places}
use Rattle.value.specs.Numeral.{is_digits}
use Rattle.value.specs.Sign.{is_minus, is_signed, bare, with_sign}
use Rattle.value.specs.declared.Value.{Value}
use Rattle.value.specs.declared.Value.TheVariants.{Scaled}
use Rattle.value.proofs.Checks.{in_width_lem}
use Rattle.value.proofs.Held.{decimal_some}

-- From -1,013 to 999.
abbrev pub PowerWithin : ℤ → Type 0
PowerWithin (pos n) = n ≤ 999
PowerWithin (negsuc n) = suc n ≤ 1013

-- A difference of two numbers lies within.
difference_within : (a b : ℕ) → a ≤ 999 → b ≤ 1013 → PowerWithin (sub_ℕ a b)
difference_within a b h k = bools (ltb a b) (λ e. rw e (omega arith)) (λ e. rw e (omega arith))

-- An exponent less places, where below zero both together are few.
power_within : (minus : Bool) (e p : ℕ) → e ≤ 999 → p ≤ 19 → (minus ≡ true → e + p ≤ 1013) → PowerWithin (with_sign minus e -ℤ pos p)
unfolding with_sign
power_within true zero zero h k m = omega arith
power_within true zero (suc p) h k m = difference_within 0 (suc p) (omega arith) (omega arith)
power_within true (suc e) zero h k m = difference_within 0 (suc e) (omega arith) (omega arith)
power_within true (suc e) (suc p) h k m = omega (arith, m refl)
power_within false e zero h k m = omega arith
power_within false e (suc p) h k m = difference_within e (suc p) h (omega arith)

-- A sign is no digit.
number_bare : (t : List ℕ) → number 0 t ≡ number 0 (bare true t)
unfolding number after bare
number_bare [] = refl
number_bare (b ∷ t) =
    bools (eqb b 43)
    (λ q. rw (q, eqb-true b 43 q))
    (λ q. bools (eqb b 45) (λ r. rw (q, r, eqb-true b 45 r)) (λ r. rw (q, r)))

-- A text that starts with a minus has a byte more than its rest.
minus_longer : (t : List ℕ) → is_minus t ≡ true → length t ≡ length (bare true t) + 1
unfolding bare
minus_longer [] e = absurd (omega (arith, eqb-true 0 45 e))
minus_longer (b ∷ t) e = bools (eqb b 43) (λ q. rw q (omega arith)) (λ q. rw (q, e) (omega arith))

-- A text without sign, of at most 20 bytes, in decimal or exponential form.
module _ (s : List ℕ) (width : length s ≤ 20) (form : is_scaled s ≡ true) where
  form_parts : (is_decimal (mantissa s) ≡ true) × ((eqb (before_mark s) (length s) || is_exponent (exponent s)) ≡ true)
  unfolding is_scaled
  form_parts = both (is_decimal (mantissa s)) (eqb (before_mark s) (length s) || is_exponent (exponent s)) form

  exponent_length : length (exponent s) ≡ length s - before_mark s - 1
  exponent_length = length-drop 1 (drop (before_mark s) s) ∙ ap (λ (n : ℕ). n - 1) (length-drop (before_mark s) s)

  -- Its decimal has a digit, so fewer places than bytes.
  places_few : places (mantissa s) < length (mantissa s)
  unfolding places
  places_few = omega (arith, decimal_some (mantissa s) form_parts.0)

  -- Its exponent has at most three digits.
  digits_few : length (bare true (exponent s)) ≤ 3
  unfolding is_exponent bare
  digits_few =
      bools (eqb (before_mark s) (length s))
      (λ q. omega (arith, exponent_length, eqb-true (before_mark s) (length s) q, bare_shorter (exponent s)))
      (λ q. leb-true (length (bare true (exponent s))) 3 (both (is_digits (bare true (exponent s))) (leb (length (bare true (exponent s))) 3) (rw q at form_parts.1)).1)
    where
      bare_shorter : (t : List ℕ) → length (bare true t) ≤ length t
      bare_shorter t = bools (is_signed t) (λ q. rw q (omega (arith, length-drop 1 t))) (λ q. rw q (omega arith))

  exponent_small : number 0 (exponent s) ≤ 999
  exponent_small = omega (arith, number_bare (exponent s), number_small (bare true (exponent s)) 3 digits_few)

  -- Below zero, the exponent's bytes leave few for places.
  below_zero : is_minus (exponent s) ≡ true → number 0 (exponent s) + places (mantissa s) ≤ 1013
  below_zero m =
      let k = length (bare true (exponent s)) in
      let longer = minus_longer (exponent s) m in
      bools (ltb k 3)
      (λ q.
      let few : k ≤ 2 = omega (arith, ltb-true k 3 q) in
      omega (arith, number_bare (exponent s), number_small (bare true (exponent s)) 2 few, places_few, length-take (before_mark s) s))
      (λ q. omega (arith, ltb-false k 3 q, longer, exponent_length, exponent_small, places_few, length-take (before_mark s) s))

  power_held : PowerWithin (power s)
  unfolding power
  power_held =
      power_within (is_minus (exponent s)) (number 0 (exponent s)) (places (mantissa s)) exponent_small
      (omega (arith, places_few, length-take (before_mark s) s)) below_zero

  size_small : size s < 100000000000000000000
  unfolding size
  size_small = number_small (mantissa s) 20 (omega (arith, length-take (before_mark s) s))

-- What a covariance is worth, and between which ends.
pub record ScaledHeld (text : List ℕ) (negative : Bool) (high low : ℕ) (power : ℤ) : Type 0 where
  pub whole : high * 10000000000 + low ≡ size (bare true text)
  pub high_below : high < 10000000000
  pub low_below : low < 10000000000
  pub power_within : PowerWithin power
  pub above : negative ≡ true → 0 < high * 10000000000 + low

-- A value below zero is above zero in size.
negative_some : (minus : Bool) (n : ℕ) → (minus && ltb 0 n) ≡ true → 0 < n
negative_some minus n e = ltb-true 0 n (both minus (ltb 0 n) e).1

pub scaled_held : (text : List ℕ) (negative : Bool) (high low : ℕ) (power_is : ℤ)
    → covariance text ≡ Ok (Scaled negative high low power_is) → ScaledHeld text negative high low power_is
unfolding covariance
scaled_held text negative high low power_is e =
    let rest = bare true text in
    let value = scaled_as (is_minus text) (size rest) (power rest) in
    let p = in_width_lem (ltb 20 (length rest)) (is_scaled rest) true value (sym (ap less_value e)) in
    let told : ◌≡◌ {A = Result Value Kind} (Ok value) (Ok (Scaled negative high low power_is)) = rw (p.0, p.1) at e in
    let width = ltb-false 20 (length rest) p.0 in
    let high_is : size rest / 10000000000 ≡ high = cc in
    let low-is : size rest % 10000000000 ≡ low = cc in
    let sign-is : (is_minus text && ltb 0 (size rest)) ≡ negative = cc in
    let same : power rest ≡ power_is = cc in
    record {
      whole = omega (arith, high_is, low-is);
      high_below = omega (arith, high_is, size_small rest width p.1);
      low_below = omega (arith, low-is);
      power_within = rw (← same) (power_held rest width p.1);
      above = λ n. let some = negative_some (is_minus text) (size rest) (sign-is ∙ n) in omega (arith, high_is, low-is, some);
    }

-- Both ends of the power are reached.
pub power_least : covariance (bytes ".00000000000001e-999") ≡ Ok (Scaled false 0 1 (negsuc 1012))
unfolding covariance is_scaled is_decimal is_pointed is_digits is_exponent is_only leading before_mark size power places number after bare with_sign
power_least = refl

pub power_most : covariance (bytes "1e999") ≡ Ok (Scaled false 0 1 (pos 999))
unfolding covariance is_scaled is_decimal is_pointed is_digits is_exponent is_only leading before_mark size power places number after bare with_sign
power_most = refl
