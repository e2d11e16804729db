-- A report of one observation packs to one block, and so the specimen packs to itself.
use Prim.Native.Nat.{ℕ, zero, suc}
use mathlib.Core.Path.{◌≡◌, refl, sym, ap}
use mathlib.Core.List.{List, [], ◌∷◌}
use mathlib.Core.Logic.{inr}
use native.Mathlib.Omega.{arith}
use Rattle.element.specs.Observation.{Observation}
use Rattle.report.specs.Report.{accepted, read}
use Rattle.cuts.specs.Cuts.{cost, stretch, Cuts, Wanted}
use Rattle.cuts.specs.Plan.{Marked, marked_bytes}
use Rattle.layout.specs.Written.{written}
use Rattle.layout.specs.Packed.{ShortestCuts, PackedIs}
use Rattle.layout.specs.Cost.{as_marked}
use Rattle.report.specs.Specimen.{specimen, specimen_observation}
use Rattle.report.proofs.Computed.{reading}
use Rattle.layout.proofs.Computed.{writing}
use Rattle.layout.proofs.Packed.{together, shortest}

-- One row is cut in one way.
one_cut : (cuts : List ℕ) (x : Marked) → Cuts together cuts (x ∷ []) → cuts ≡ 1 ∷ []
unfolding stretch
one_cut [] x v = absurd v
one_cut (zero ∷ ks) x v = absurd v
one_cut (suc zero ∷ []) x v = refl
one_cut (suc zero ∷ k ∷ ks) x v = absurd v.1
one_cut (suc (suc k) ∷ ks) x v = absurd (omega (arith, v.0))

-- So that way is the wanted one.
one_wanted : (x : Marked) → Wanted marked_bytes together (x ∷ []) (1 ∷ [])
one_wanted x = record {
  cuts = (omega arith, tt);
  least = λ cuts v. omega (arith, ap (λ (ks : List ℕ). cost marked_bytes ks (x ∷ [])) (one_cut cuts x v));
  last = λ cuts v e. rw (one_cut cuts x v) (inr (refl, tt));
}

-- One observation packs to one block.
pub one_packs : (t : List ℕ) (o : Observation) → read t ≡ accepted (o ∷ []) → ShortestCuts (o ∷ []) (1 ∷ [])
one_packs t o h = shortest t (o ∷ []) (1 ∷ []) h (one_wanted (as_marked o))

-- The specimen is accepted, with one observation.
pub specimen_reads : read specimen ≡ accepted (specimen_observation ∷ [])
unfolding reading
specimen_reads = refl

-- What is written of it in one block is the specimen.
pub specimen_is : written (1 ∷ []) (specimen_observation ∷ []) ≡ specimen
unfolding writing
specimen_is = refl

-- The specimen packs to itself.
pub specimen_packs : PackedIs (specimen_observation ∷ []) specimen
specimen_packs = record { cuts = 1 ∷ []; shortest = one_packs specimen specimen_observation specimen_reads; is = sym specimen_is }
