-- Packing the empty report writes nothing.
use mathlib.Core.Path.{◌≡◌, refl}
use mathlib.Core.List.{List, [], ◌∷◌}
use Prim.Native.Nat.{ℕ}
use native.Mathlib.Omega.{arith}
use Rattle.cuts.specs.Cuts.{Yields}
use Rattle.layout.specs.Written.{written, Valid}
use Rattle.layout.specs.Packed.{ShortestCuts, PackedIs}
use Rattle.layout.proofs.ReadsBack.{empty_reads}
use Rattle.layout.proofs.Unique.{unique}

-- No observations have no cuts.
pub empty_cuts : ShortestCuts [] []
unfolding written
empty_cuts = record {
  valid = tt;
  reads = empty_reads;
  least = λ other h. omega arith;
  last = λ others v e. last others v;
}
  where
    last : (others : List ℕ) → Valid others [] → Yields others []
    last [] v = tt
    last (k ∷ ks) v = absurd v

-- Their packed report is the empty text.
pub empty : PackedIs [] []
unfolding written
empty = record { cuts = []; shortest = empty_cuts; is = refl }

-- And no other text is.
pub empty_only : (text : List ℕ) → PackedIs [] text → text ≡ []
empty_only text p = unique [] text [] p empty
