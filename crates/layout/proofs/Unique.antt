-- No second list of cuts is that of the packed report of the same observations, and no second text is their packed report.
use mathlib.Core.Path.{◌≡◌, ap, sym, ◌∙◌}
use mathlib.Core.List.{List}
use Prim.Native.Nat.{ℕ, ◌≤◌}
use native.Mathlib.Omega.{arith}
use lib.ListN.{length}
use Rattle.element.specs.Observation.{Observation}
use Rattle.report.specs.Report.{accepted, read}
use Rattle.cuts.proofs.WantedUnique.{yields_antisym}
use Rattle.layout.specs.Written.{written}
use Rattle.layout.specs.Packed.{ShortestCuts, PackedIs}

-- The cuts are unique.
pub cuts_unique : (L : List Observation) (a b : List ℕ) → ShortestCuts L a → ShortestCuts L b → a ≡ b
cuts_unique L a b p q =
    let e : length (written a L) ≡ length (written b L) = omega (arith, p.least (written b L) q.reads, q.least (written a L) p.reads) in
    yields_antisym a b (q.last a p.valid e) (p.last b q.valid (sym e))

-- The promise of packing has one answer.
pub unique : (L : List Observation) (a b : List ℕ) → PackedIs L a → PackedIs L b → a ≡ b
unique L a b p q =
    p.is ∙ (ap (λ (cuts : List ℕ). written cuts L) (cuts_unique L p.cuts q.cuts p.shortest q.shortest) ∙ sym q.is)

module _ {L : List Observation} {text : List ℕ} (p : PackedIs L text) where
  -- The packed report reads as the observations.
  pub packed_reads : read text ≡ accepted L
  packed_reads = rw p.is p.shortest.reads

  -- No text that does is shorter.
  pub packed_least : (other : List ℕ) → read other ≡ accepted L → length text ≤ length other
  packed_least other h = rw p.is (p.shortest.least other h)
