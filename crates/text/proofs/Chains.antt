-- Words of texts and lines, said in the words that the library has for lists.
use Prim.Native.Nat.{ℕ, ◌≤◌}
use mathlib.Core.Path.{◌≡◌, refl, ◌∙◌}
use mathlib.Core.Bool.{Bool, not}
use mathlib.Core.List.{List, [], ◌∷◌}
use native.Mathlib.Omega.{arith}
use lib.Dec.{eqb}
use lib.ListN.{length, take, length-take}
use lib.Pointwise.{pointwise}
use Rattle.std.specs.List.{prefix_len}
use Rattle.std.proofs.lemmas.Grind.{common_steps}
use Rattle.text.specs.Class.{is_of, leading}
use Rattle.text.specs.declared.class.Class.{Class}
use Rattle.text.specs.Lines.{leading_blanks, up_to}
use Rattle.text.specs.Part.{same}
use Rattle.text.proofs.Bools.{bools}

-- How many bytes pass a test from the start on.
passing : (p : ℕ → Bool) (s : List ℕ) → length (take (prefix_len p s) s) ≡ prefix_len p s
passing p s = grind (arith, common_steps)

-- The bytes that a text starts with: a count of those that pass.
leading_long : (k : Class) (s : List ℕ) → prefix_len (is_of k) s ≡ leading k s
unfolding leading
leading_long k [] = refl
leading_long k (b ∷ s) = bools (is_of k b) (λ e. rw e (omega (arith, leading_long k s))) (λ e. rw e)

pub leading_is : (k : Class) (s : List ℕ) {n : ℕ} → n ≡ length (take (prefix_len (is_of k) s) s) → n ≡ leading k s
leading_is k s e = e ∙ passing (is_of k) s ∙ leading_long k s

blanks_long : (s : List ℕ) → prefix_len (λ b. eqb b 32) s ≡ leading_blanks s
blanks_long [] = refl
blanks_long (b ∷ s) = bools (eqb b 32) (λ e. rw e (omega (arith, blanks_long s))) (λ e. rw e)

pub blanks_is : (s : List ℕ) {n : ℕ} → n ≡ length (take (prefix_len (λ b. eqb b 32) s) s) → (n ≡ leading_blanks s) × (n ≤ length s)
blanks_is s e = (e ∙ passing (λ b. eqb b 32) s ∙ blanks_long s, omega (arith, e, length-take (prefix_len (λ b. eqb b 32) s) s))

up_to_long : (m : ℕ) (s : List ℕ) → prefix_len (λ b. not (eqb b m)) s ≡ up_to m s
up_to_long m [] = refl
up_to_long m (b ∷ s) = bools (eqb b m) (λ e. rw e) (λ e. rw e (omega (arith, up_to_long m s)))

pub up_to_is : (m : ℕ) (s : List ℕ) {n : ℕ} → n ≡ length (take (prefix_len (λ b. not (eqb b m)) s) s) → (n ≡ up_to m s) × (n ≤ length s)
up_to_is m s e = (e ∙ passing (λ b. not (eqb b m)) s ∙ up_to_long m s, omega (arith, e, length-take (prefix_len (λ b. not (eqb b m)) s) s))

-- Texts that are the same.
pub same_is_pointwise : (s t : List ℕ) → same s t ≡ pointwise eqb s t
unfolding same
same_is_pointwise [] [] = refl
same_is_pointwise [] (b ∷ t) = refl
same_is_pointwise (a ∷ s) [] = refl
same_is_pointwise (a ∷ s) (b ∷ t) = rw (same_is_pointwise s t)
