-- Laws of signed numbers of 64 bits: a difference.
use Prim.Native.Nat.{ℕ, suc, ◌≤◌}
use mathlib.Core.Path.{◌≡◌}
use native.Mathlib.Omega.{arith}
use lib.Dec.{ltb}
use lib.IntN.{sub_ℕ, pos, ◌-ℤ◌}
use mir.Facts.{to_z_pos, to_z-of_z}
use mir.Syntax.{w64}
use mir.Val.{SFits, to_z, of_z}
use Rattle.text.proofs.Bools.{bools}

-- A difference fits 64 bits.
pub difference_fits : (a b : ℕ) → a ≤ 1000000000000000000 → b ≤ 1000000000000000000 → SFits w64 (sub_ℕ a b)
difference_fits a b h k = bools (ltb a b) (λ e. rw e (record { sfits = omega arith })) (λ e. rw e (record { sfits = omega arith }))

-- A difference of two whole numbers.
module _ (a k : ℕ) (h : a ≤ 1000000000000000000) (j : suc k ≤ 1000000000000000000) where
  pub less_is : to_z w64 (of_z w64 (to_z w64 a -ℤ pos (suc k))) ≡ sub_ℕ a (suc k)
  less_is = rw (to_z_pos w64 {n = a} (omega arith)) (to_z-of_z (difference_fits a (suc k) h j))
