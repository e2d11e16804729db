-- Laws of the bytes of a class that a text starts with, each in the form that a loop asks for.
use Prim.Native.Nat.{ℕ, ◌≤◌, zero-le, suc-le-suc}
use mathlib.Core.Path.{◌≡◌}
use mathlib.Core.Bool.{true}
use mathlib.Core.List.{List, [], ◌∷◌}
use lib.Dec.{leb}
use lib.ListN.{length}
use borrow.Author.Tests.{leb-true}
use Rattle.text.specs.Class.{is_digit, is_of, leading}
use Rattle.text.specs.declared.class.Class.{Class}
use Rattle.text.proofs.Bools.{bools, both}

-- A text starts with no more bytes of a class than it has.
pub leading_le : (k : Class) (s : List ℕ) → leading k s ≤ length s
unfolding leading
leading_le k [] = zero-le
leading_le k (b ∷ s) = bools (is_of k b) (λ e. rw e (suc-le-suc (leading_le k s))) (λ e. rw e zero-le)

-- A digit is 48 to 57.
pub digit_range : (b : ℕ) → is_digit b ≡ true → (48 ≤ b) × (b ≤ 57)
digit_range b e = let p = both (leb 48 b) (leb b 57) e in (leb-true 48 b p.0, leb-true b 57 p.1)
