-- Laws of parts of a text, of texts that are the same and of shapes, each in the form that a loop asks for.
use Prim.Native.Nat.{ℕ, zero, suc, ◌≤◌, ◌<◌, zero-le, suc-le-suc}
use mathlib.Core.Path.{◌≡◌, ◌∙◌, refl, ap}
use mathlib.Core.Bool.{Bool, true, false}
use mathlib.Core.List.{List, [], ◌∷◌}
use native.Mathlib.Nat.{not-suc-le-zero, le_of_suc-le-suc}
use lib.Dec.{eqb}
use lib.ListN.{length, take}
use borrow.Author.Tests.{eqb-true, eq-eqb}
use Rattle.std.specs.List.{list_all, zip}
use Rattle.text.specs.Part.{same, matches, starts}
use Rattle.text.proofs.Bools.{bools, both, never}

-- No more than n bytes are taken.
pub take_below : (n : ℕ) (s : List ℕ) → length (take n s) ≤ n
take_below zero s = zero-le
take_below (suc n) [] = zero-le
take_below (suc n) (x ∷ s) = suc-le-suc (take_below n s)

-- A text is the same as itself.
pub same_refl : (s : List ℕ) → same s s ≡ true
unfolding same
same_refl [] = refl
same_refl (a ∷ s) = rw (eq-eqb a a refl) (same_refl s)

-- Texts that are the same are equal.
pub same_is : (s t : List ℕ) → same s t ≡ true → s ≡ t
unfolding same
same_is [] [] e = refl
same_is [] (b ∷ t) e = never e
same_is (a ∷ s) [] e = never e
same_is (a ∷ s) (b ∷ t) e = let p = both (eqb a b) (same s t) e in rw (eqb-true a b p.0, same_is s t p.1)

-- Texts of different lengths are not the same.
pub same_length : (s t : List ℕ) → (length s ≡ length t → ⊥) → same s t ≡ false
same_length s t h = bools (same s t) (λ e. absurd (h (ap length (same_is s t e)))) (λ e. e)

-- A text no shorter than the shape starts in it where each byte matches.
pub starts_is : (p s : List ℕ) {b : Bool} → length p ≤ length s → b ≡ list_all (λ x. matches x.0 x.1) (zip p s) → b ≡ starts p s
unfolding starts
starts_is [] s h e = e
starts_is (q ∷ p) [] h e = absurd (not-suc-le-zero h)
starts_is (q ∷ p) (b ∷ s) h e = e ∙ rw (starts_is p s (le_of_suc-le-suc h) refl)

-- What is paired with a shape are as many bytes as it has.
pub zip_front : (p s : List ℕ) → zip p (take (length p) s) ≡ zip p s
zip_front [] s = refl
zip_front (q ∷ p) [] = refl
zip_front (q ∷ p) (b ∷ s) = rw (zip_front p s)

-- A text shorter than the shape does not start in it.
pub starts_short : (p s : List ℕ) → length s < length p → starts p s ≡ false
unfolding starts
starts_short [] s h = absurd (not-suc-le-zero h)
starts_short (q ∷ p) [] h = refl
starts_short (q ∷ p) (b ∷ s) h = bools (matches q b) (λ e. rw e (starts_short p s (le_of_suc-le-suc h))) (λ e. rw e)
