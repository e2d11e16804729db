-- Laws of names that the system takes as a path.
use Prim.Native.Nat.{ℕ, suc}
use mathlib.Core.Path.{◌≡◌, refl, ap, sym, ◌∙◌}
use mathlib.Core.Bool.{Bool, not, ◌&&◌}
use mathlib.Core.List.{List, [], ◌∷◌}
use native.Mathlib.Omega.{arith}
use borrow.Author.Tests.{eq-eqb, ne_eqb, eqb-true, eqb-false}
use lib.Dec.{eqb, ltb}
use lib.ListN.{length}
use Rattle.std.specs.List.{list_any}
use Rattle.text.specs.Lines.{up_to}
use Rattle.text.proofs.Bools.{bools}
use Rattle.files.specs.Path.{is_path, path_max}

suc_eqb : (m n : ℕ) → eqb (suc m) (suc n) ≡ eqb m n
suc_eqb m n = bools (eqb m n) (λ t. eq-eqb _ _ (ap suc (eqb-true m n t)) ∙ sym t) (λ t. ne_eqb _ _ (λ q. eqb-false m n t (omega arith)) ∙ sym t)

-- No byte is 0 where all of them stand before the first one that is.
no_zero : (s : List ℕ) → not (list_any (λ b. eqb b 0) s) ≡ eqb (up_to 0 s) (length s)
no_zero [] = refl
no_zero (b ∷ s) = bools (eqb b 0) (λ e. rw (e, ne_eqb 0 (suc (length s)) (λ q. omega arith))) (λ e. rw (e, suc_eqb, no_zero s))

pub path_is : (s : List ℕ) {any : Bool} → any ≡ list_any (λ b. eqb b 0) s → ltb (length s) path_max && not any ≡ is_path s
path_is s e = bools (ltb (length s) path_max) (λ t. rw (t, e, no_zero s)) (λ t. rw t)
