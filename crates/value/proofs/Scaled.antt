-- Laws of covariances: where the first `e` or `E` stands, how short an exponent is, and the two parts of a whole number.
use Prim.Native.Nat.{ℕ, zero, suc, ◌+◌, ◌-◌, ◌*◌, ◌/◌, ◌%◌, ◌^◌, ◌≤◌, ◌<◌, zero-le}
use mathlib.Core.Path.{◌≡◌, refl, sym, ap, ◌∙◌}
use mathlib.Core.Bool.{Bool, true, false, ◌&&◌, ◌||◌}
use mathlib.Core.List.{List, [], ◌∷◌}
use native.Mathlib.Omega.{arith}
use lib.Dec.{eqb, leb, ltb, lit<}
use lib.IntN.{ℤ, pos, ◌-ℤ◌}
use denote.Ref.{Bor}
use lib.Seq.{drop-length, take_all}
use native.Mathlib.Numerals.{add-one}
use lib.ListN.{length, get_or, take, drop, length-take, length-drop}
use mir.Syntax.{w64}
use mir.Val.{SFits}
use borrow.Author.Tests.{eqb-true, eq-eqb, ne_eqb, leb-true, ltb-true, ltb-false, lt-ltb, le-ltb}
use Rattle.std.specs.List.{position, position_or_len}
use Rattle.std.specs.Option.{option_copied, unwrap_or}
use Rattle.std.specs.Prelude.{Option, Some, None, cond}
use Rattle.std.proofs.lemmas.Bool.Decides.{nat_tests}
use Rattle.text.specs.Class.{is_digit}
use Rattle.text.specs.Digits.{after, number}
use Rattle.text.proofs.Bools.{bools, both}
use Rattle.text.proofs.Numbers.{after_below, number_end, number_front, number_small, number_step, pow_below}
use Rattle.value.proofs.Numerals.{places_le}
use Rattle.value.proofs.Signs.{difference_fits}
use Rattle.value.specs.Decimal.{is_decimal, places}
use Rattle.value.specs.Numeral.{is_digits}
use Rattle.value.specs.Sign.{is_minus, is_signed, bare, with_sign}
use Rattle.value.specs.Covariance.{is_mark, before_mark, mantissa, exponent, marked_exponent, is_exponent, is_scaled, power, scaled_as}
use Rattle.value.specs.declared.Value.TheVariants.{Scaled}

-- A byte before them makes a place one more, and the length too.
one_more : (i n before : ℕ) → unwrap_or (cond (ltb i n) (Some i) None) n ≡ before → unwrap_or (cond (ltb (1 + i) (suc n)) (Some (1 + i)) None) (suc n) ≡ suc before
one_more i n before e = grind (arith, nat_tests)

-- The first `e` or `E` found, or the length where there is none.
pub mark_is : (s : List ℕ) → unwrap_or (position is_mark s) (length s) ≡ before_mark s
unfolding before_mark
mark_is [] = refl
mark_is (b ∷ s) =
    bools (is_mark b)
    (λ q. rw (q, lt-ltb 0 (suc (length s)) (omega arith)))
    (λ q. rw q (one_more (position_or_len is_mark s) (length s) (before_mark s) (mark_is s)))

-- One byte more dropped.
drop_more : (i : ℕ) (s : List ℕ) → drop (suc i) s ≡ drop 1 (drop i s)
drop_more zero s = refl
drop_more (suc i) [] = refl
drop_more (suc i) (b ∷ s) = drop_more i s

-- Where one is found, the text stands in two halves; where none is, it is all before it.
module _ (s : List ℕ) where
  pub mark_some : (i : ℕ) → Some i ≡ position is_mark s → (i < length s) × (before_mark s ≡ i)
  mark_some i e =
      let first = position_or_len is_mark s in
      bools (ltb first (length s))
      (λ q.
      let same : ◌≡◌ {A = Option ℕ} (Some i) (Some first) = rw q at e in
      let here : i ≡ first = cc in
      let is : first ≡ before_mark s = rw q at (mark_is s) in
      (omega (arith, ltb-true first (length s) q, here), sym is ∙ sym here))
      (λ q. let none : ◌≡◌ {A = Option ℕ} (Some i) None = rw q at e in cc)

  mark_none : None ≡ position is_mark s → before_mark s ≡ length s
  mark_none e =
      let first = position_or_len is_mark s in
      bools (ltb first (length s))
      (λ q. let some : ◌≡◌ {A = Option ℕ} None (Some first) = rw q at e in cc)
      (λ q. sym (rw q at (mark_is s)))

  pub before_none : None ≡ position is_mark s → s ≡ mantissa s
  before_none e = rw (mark_none e, take_all (length s) s (omega arith))

  pub after_some : (i : ℕ) → Some i ≡ position is_mark s → Some (take (length s - (i + 1)) (drop (i + 1) s)) ≡ marked_exponent s
  after_some i e =
      let at = mark_some i e in
      rw (at.1, ne_eqb i (length s) (λ z. omega (arith, at.0)), take_all (length s - (i + 1)) (drop (i + 1) s) (omega (arith, length-drop (i + 1) s)), add-one, drop_more i s)

  pub after_none : None ≡ position is_mark s → None ≡ marked_exponent s
  after_none e = rw (mark_none e, eq-eqb (length s) (length s) refl)

-- The exponent, and nothing where there is no `e` or `E`.
pub exponent_is : (s : List ℕ) (half : Option (Bor (List ℕ))) (none : Bor (List ℕ)) → none.now ≡ [] → option_copied half ≡ marked_exponent s
    → (unwrap_or half none).now ≡ exponent s
exponent_is s None none e f =
    bools (eqb (before_mark s) (length s))
    (λ q. rw (eqb-true (before_mark s) (length s) q, drop-length s) e)
    (λ q. let some : ◌≡◌ {A = Option (List ℕ)} None (Some (exponent s)) = rw q at f in cc)
exponent_is s (Some rest) none e f =
    bools (eqb (before_mark s) (length s))
    (λ q. let other : ◌≡◌ {A = Option (List ℕ)} (Some rest.now) None = rw q at f in cc)
    (λ q. let same : ◌≡◌ {A = Option (List ℕ)} (Some rest.now) (Some (exponent s)) = rw q at f in cc)

-- What is known after each byte of a text: the parts so far are those of a whole number of no more digits than bytes passed, and what is left, put after it, makes the number of the text.
pub record InParts (s : List ℕ) (high low i : ℕ) : Type 0 where
  pub inside : i ≤ length s
  pub low_below : low < 10000000000
  pub few : high * 10000000000 + low < 10 ^ i
  pub same : number 0 s ≡ number (high * 10000000000 + low) (drop i s)

-- Before the first byte.
pub parts_none : (s : List ℕ) → InParts s 0 0 0
parts_none s = record { inside = zero-le; low_below = lit< tt; few = lit< tt; same = refl }

module _ (s : List ℕ) (high low i : ℕ) (p : InParts s high low i) (h : i < length s) where
  -- A digit more.
  pub parts_digit : is_digit (get_or s i 0) ≡ true
      → InParts s (high * 10 + (low * 10 + (get_or s i 0 - 48)) / 10000000000) ((low * 10 + (get_or s i 0 - 48)) % 10000000000) (i + 1)
  unfolding after
  parts_digit e =
      let d = get_or s i 0 - 48 in
      let whole : (high * 10 + (low * 10 + d) / 10000000000) * 10000000000 + (low * 10 + d) % 10000000000 ≡ (high * 10000000000 + low) * 10 + d = omega arith in
      let is : after (high * 10000000000 + low) (get_or s i 0) ≡ (high * 10000000000 + low) * 10 + d = rw e in
      record {
        inside = omega arith;
        low_below = omega arith;
        few = rw (whole, ← is) (after_below (high * 10000000000 + low) (get_or s i 0) i p.few);
        same = rw (whole, ← is) (p.same ∙ number_step s i (high * 10000000000 + low) h);
      }

  -- A byte that is no digit.
  pub parts_other : is_digit (get_or s i 0) ≡ false → InParts s high low (i + 1)
  unfolding after
  parts_other e =
      let is : after (high * 10000000000 + low) (get_or s i 0) ≡ high * 10000000000 + low = rw e in
      record {
        inside = omega arith;
        low_below = p.low_below;
        few = rw (← is) (after_below (high * 10000000000 + low) (get_or s i 0) i p.few);
        same = p.same ∙ (number_step s i (high * 10000000000 + low) h ∙ ap (λ (n : ℕ). number n (drop (i + 1) s)) is);
      }

  -- There is room for a digit more in both parts.
  pub parts_room : length s ≤ 20 → high < 10000000000
  parts_room l = omega (arith, p.few, pow_below i 19 (omega arith))

-- Past the last byte the parts are those of the number.
pub parts_all : (s : List ℕ) (high low i : ℕ) (minus : Bool) (power : ℤ) → InParts s high low i → length s ≤ i
    → Scaled (minus && (ltb 0 high || ltb 0 low)) high low power ≡ scaled_as minus (number 0 s) power
parts_all s high low i minus power p h =
    let is : number 0 s ≡ high * 10000000000 + low = p.same ∙ number_end s i (high * 10000000000 + low) h in
    let high_is : high ≡ number 0 s / 10000000000 = omega (arith, is, p.low_below) in
    let low-is : low ≡ number 0 s % 10000000000 = omega (arith, is, p.low_below) in
    let some : (ltb 0 high || ltb 0 low) ≡ ltb 0 (number 0 s) =
    bools (ltb 0 high)
    (λ e. rw e (sym (lt-ltb 0 (number 0 s) (omega (arith, is, ltb-true 0 high e)))))
    (λ e. rw e (bools (ltb 0 low)
    (λ f. rw f (sym (lt-ltb 0 (number 0 s) (omega (arith, is, ltb-true 0 low f)))))
    (λ f. rw f (sym (le-ltb 0 (number 0 s) (omega (arith, is, ltb-false 0 high e, ltb-false 0 low f))))))) in
    rw (some, ← high_is, ← low-is)

-- A sign is one byte.
sign_one : (t : List ℕ) → length t ≤ length (bare true t) + 1
unfolding bare
sign_one t = bools (is_signed t) (λ q. rw q (omega (arith, length-drop 1 t))) (λ q. rw q (omega arith))

-- A decimal or exponential form has at most four bytes after its `e` or `E`.
pub exponent_short : (s : List ℕ) → is_scaled s ≡ true → length (exponent s) ≤ 4
unfolding is_scaled is_exponent
exponent_short s e =
    let last = (both (is_decimal (mantissa s)) (eqb (before_mark s) (length s) || is_exponent (exponent s)) e).1 in
    let left = length-drop 1 (drop (before_mark s) s) ∙ ap (λ (n : ℕ). n - 1) (length-drop (before_mark s) s) in
    bools (eqb (before_mark s) (length s))
    (λ q. omega (arith, left, eqb-true (before_mark s) (length s) q))
    (λ q.
    let few = (both (is_digits (bare true (exponent s))) (leb (length (bare true (exponent s))) 3) (rw q at last)).1 in
    omega (arith, leb-true (length (bare true (exponent s))) 3 few, sign_one (exponent s)))

-- A signed exponent less a number of places fits 64 bits.
pub power_fits : (minus : Bool) (e p : ℕ) → e < 10000 → p ≤ 20 → SFits w64 (with_sign minus e -ℤ pos p)
unfolding with_sign
power_fits true zero zero h k = record { sfits = lit< tt }
power_fits true zero (suc p) h k = difference_fits 0 (suc p) (omega arith) (omega arith)
power_fits true (suc e) zero h k = difference_fits 0 (suc e) (omega arith) (omega arith)
power_fits true (suc e) (suc p) h k = record { sfits = omega arith }
power_fits false e zero h k = record { sfits = omega arith }
power_fits false e (suc p) h k = difference_fits e (suc p) (omega arith) (omega arith)

-- The power worked out of its parts: it fits 64 bits.
pub record PowerIs (s : List ℕ) (signed : ℤ) (count : ℕ) : Type 0 where
  pub few : count ≤ 20
  pub fits : SFits w64 (signed -ℤ pos count)
  pub is : signed -ℤ pos count ≡ power s

pub power_is : (s : List ℕ) (signed : ℤ) (count : ℕ) → length s ≤ 20 → is_scaled s ≡ true
    → signed ≡ with_sign (is_minus (exponent s)) (number 0 (take 18 (exponent s))) → count ≡ places (mantissa s) → PowerIs s signed count
unfolding power
power_is s signed count l e signed_is count_is =
    let short = exponent_short s e in
    let few : places (mantissa s) ≤ 20 = omega (arith, places_le (mantissa s), length-take (before_mark s) s) in
    let whole = number_front (exponent s) (omega (arith, short)) in
    let small = number_small (exponent s) 4 short in
    record {
      few = rw count_is few;
      fits = rw (signed_is, whole, count_is) (power_fits (is_minus (exponent s)) (number 0 (exponent s)) (places (mantissa s)) small few);
      is = rw (signed_is, whole, count_is);
    }
