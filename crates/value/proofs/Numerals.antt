-- Laws of numbers that parts of a text make, and of the places and the width of a decimal.
use Prim.Native.Nat.{ℕ, suc, ◌+◌, ◌-◌, ◌*◌, ◌^◌, ◌≤◌, ◌<◌}
use mathlib.Core.Path.{◌≡◌, refl, ap, sym, ◌∙◌}
use mathlib.Core.Bool.{false, ◌&&◌}
use mathlib.Core.List.{List, [], ◌∷◌, ◌++◌}
use native.Mathlib.Nat.{le_trans, lt_of_lt_of_le, mul_assoc, mul_comm, mul-le-mul_right, pow-suc}
use native.Mathlib.Omega.{arith}
use lib.Dec.{leb, ltb}
use lib.ListN.{length, take, drop}
use borrow.Author.Tests.{ltb-true, ltb-false, lt-ltb, le-leb, leb-true}
use Rattle.std.specs.List.{list_any}
use Rattle.text.specs.Class.{is_digit, leading}
use Rattle.text.specs.Digits.{after, number}
use Rattle.text.proofs.Bools.{bools, both, neither, never}
use Rattle.text.proofs.Classes.{digit_range}
use Rattle.text.proofs.Numbers.{number_front, number_small}
use Rattle.text.proofs.Parts.{take_below}
use Rattle.value.specs.Decimal.{places, is_too_wide}
use Rattle.value.specs.Numeral.{digits, part}

-- The first 18 bytes of a part of at most 18 bytes are all of it.
pub part_is : (from count : ℕ) (s : List ℕ) → count ≤ 18 → number 0 (take 18 (take count (drop from s))) ≡ part from count s
unfolding part
part_is from count s h = number_front (take count (drop from s)) (le_trans (take_below count (drop from s)) h)

-- A part makes a number of no more digits than it has bytes.
pub part_below : (from count : ℕ) (s : List ℕ) → part from count s < 10 ^ count
unfolding part
part_below from count s = number_small (take count (drop from s)) count (take_below count (drop from s))

-- A decimal has no more places than bytes.
pub places_le : (s : List ℕ) → places s ≤ length s
unfolding places
places_le s = omega arith

-- A decimal that does not pass its width has at most 18 bytes.
pub narrow : (width : ℕ) (s : List ℕ) → is_too_wide width s ≡ false → length s ≤ 18
unfolding is_too_wide
narrow width s e = ltb-false 18 (length s) (neither (ltb width (length s)) (ltb 18 (length s)) e).1

-- Digits put after others.
pub number_append : (n : ℕ) (a b : List ℕ) → number n (a ++ b) ≡ number (number n a) b
unfolding number
number_append n [] b = refl
number_append n (x ∷ a) b = number_append (after n x) a b

-- A byte more makes a number no smaller, and larger by less than a digit.
after_grows : (n b : ℕ) → n ≤ after n b
unfolding after
after_grows n b = bools (is_digit b) (λ e. rw e (omega arith)) (λ e. rw e (omega arith))

after_under : (n b : ℕ) → after n b + 1 ≤ (n + 1) * 10
unfolding after
after_under n b = bools (is_digit b) (λ e. rw e (omega (arith, digit_range b e))) (λ e. rw e (omega arith))

number_grows : (n : ℕ) (s : List ℕ) → n ≤ number n s
unfolding number
number_grows n [] = omega arith
number_grows n (b ∷ s) = le_trans (after_grows n b) (number_grows (after n b) s)

number_under : (n : ℕ) (s : List ℕ) → number n s < (n + 1) * 10 ^ length s
unfolding number
number_under n [] = omega arith
number_under n (b ∷ s) =
    let e : (n + 1) * 10 * 10 ^ length s ≡ (n + 1) * 10 ^ suc (length s) =
    mul_assoc (n + 1) 10 (10 ^ length s) ∙ ap (λ (x : ℕ). (n + 1) * x) (mul_comm 10 (10 ^ length s) ∙ sym (pow-suc 10 (length s))) in
    lt_of_lt_of_le (number_under (after n b) s) (rw e at (mul-le-mul_right (10 ^ length s) (after_under n b)))

-- A byte that is no digit is left out.
skipped : (n b : ℕ) → is_digit b ≡ false → after n b ≡ n
unfolding after
skipped n b e = rw e

-- What stands after the leading digits of a text adds as many digits as stand after the point.
pub number_places : (n : ℕ) (s : List ℕ) → number n (drop (digits s) s) < (n + 1) * 10 ^ (length s - digits s - 1)
unfolding number leading
number_places n [] = omega arith
number_places n (b ∷ s) =
    bools (is_digit b)
    (λ q. let e : suc (length s) - suc (digits s) - 1 ≡ length s - digits s - 1 = omega arith in rw (q, e) (number_places n s))
    (λ q. let e : suc (length s) - 0 - 1 ≡ length s = omega arith in rw (q, e, skipped n b q) (number_under n s))

-- A digit above 0 makes the number of a text one above 0, and nothing else does.
pub positive_is : (s : List ℕ) → list_any (λ byte. leb 49 byte && leb byte 57) s ≡ ltb 0 (number 0 s)
unfolding number after
positive_is [] = refl
positive_is (b ∷ s) =
    bools (leb 49 b && leb b 57)
    (λ q.
    let p = both (leb 49 b) (leb b 57) q in
    let low : 49 ≤ b = leb-true 49 b p.0 in
    let one : 1 ≤ after 0 b = rw (le-leb 48 b (omega arith), p.1) (omega arith) in
    rw q (sym (lt-ltb 0 (number (after 0 b) s) (le_trans one (number_grows (after 0 b) s)))))
    (λ q.
    let zero_is : after 0 b ≡ 0 =
    bools (is_digit b)
    (λ d.
    let r = digit_range b d in
    bools (ltb 48 b)
    (λ t. let low : 49 ≤ b = ltb-true 48 b t in never (sym (rw (le-leb 49 b low, le-leb b 57 r.1) at q)))
    (λ t. rw d (omega (arith, ltb-false 48 b t))))
    (λ d. rw d) in
    rw (q, zero_is) (positive_is s))
