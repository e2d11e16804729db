-- No second cut list is wanted of the same rows, so no second plan meets the promise.
use mathlib.Core.Path.{◌≡◌, refl, sym, ap, ap₂, ◌∙◌}
use mathlib.Core.Bool.{Bool, true, false}
use mathlib.Core.List.{List, [], ◌∷◌, ◌++◌}
use mathlib.Core.Logic.{inl, inr}
use Prim.Native.Nat.{ℕ}
use native.Mathlib.Omega.{arith}
use lib.ListN.{length, take, drop, take-append-drop}
use lib.Seq.{length-take-le}
use Rattle.cuts.specs.Cuts.{Yields, cost, same_mark, Wanted}
use Rattle.cuts.specs.Plan.{marked_rows, marked_bytes, Planned, Unplanned, Answered, ShortestPromised, ready}
use Rattle.cuts.specs.declared.Plan.{Plan}

-- Two cut lists that yield to each other are the same.
pub yields_antisym : (js ks : List ℕ) → Yields js ks → Yields ks js → js ≡ ks
yields_antisym [] [] p q = refl
yields_antisym [] (k ∷ ks) p q = absurd q
yields_antisym (j ∷ js) [] p q = absurd p
yields_antisym (j ∷ js) (k ∷ ks) (inl h) (inl g) = absurd (omega arith)
yields_antisym (j ∷ js) (k ∷ ks) (inl h) (inr g) = absurd (omega (arith, g.0))
yields_antisym (j ∷ js) (k ∷ ks) (inr h) (inl g) = absurd (omega (arith, h.0))
yields_antisym (j ∷ js) (k ∷ ks) (inr h) (inr g) = ap₂ ◌∷◌ h.0 (yields_antisym js ks h.1 g.1)

-- One cut list is wanted, and no other.
pub wanted_unique : {A : Type 0} (C : List A → ℕ) (more : A → List A → ℕ) (rows : List A) (ks js : List ℕ)
    → Wanted C more rows ks → Wanted C more rows js → ks ≡ js
wanted_unique C more rows ks js p q =
    let e : cost C ks rows ≡ cost C js rows = omega (arith, p.least js q.cuts, q.least ks p.cuts) in
    yields_antisym ks js (q.last ks p.cuts e) (p.last js q.cuts (sym e))

-- One plan is right, and one list of lent numbers with it.
pub planned_unique : {A : Type 0} (C : List A → ℕ) (more : A → List A → ℕ) (rows : List A) (p q : Plan) (before after other : List ℕ)
    → Planned C more rows p before after → Planned C more rows q before other → (p ≡ q) × (after ≡ other)
planned_unique C more rows p q before after other a b =
    let cut : take p.blocks after ≡ take q.blocks other = wanted_unique C more rows _ _ a.wanted b.wanted in
    let blocks : p.blocks ≡ q.blocks =
    omega (arith, ap length cut, length-take-le p.blocks after a.within, length-take-le q.blocks other b.within) in
    let bytes : p.bytes ≡ q.bytes = a.bytes ∙ ap (λ (ks : List ℕ). cost C ks rows) cut ∙ sym b.bytes in
    let rest : drop p.blocks after ≡ drop q.blocks other = a.kept ∙ ap (λ (n : ℕ). drop n before) blocks ∙ sym b.kept in (
      λ i. record { blocks = blocks i; bytes = bytes i },
      sym (take-append-drop p.blocks after) ∙ ap₂ ◌++◌ cut rest ∙ take-append-drop q.blocks other,
    )

unplanned_unique : (p q : Plan) (before after other : List ℕ) → Unplanned p before after → Unplanned q before other → (p ≡ q) × (after ≡ other)
unplanned_unique p q before after other a b = (
  λ i. record { blocks = (a.blocks ∙ sym b.blocks) i; bytes = (a.bytes ∙ sym b.bytes) i },
  a.kept ∙ sym b.kept,
)

-- The promise of `shortest` has one answer.
pub promised_unique : (marks sets sizes : List ℕ) (p q : Plan) (before after other : List ℕ)
    → ShortestPromised marks sets sizes p before after → ShortestPromised marks sets sizes q before other → (p ≡ q) × (after ≡ other)
promised_unique marks sets sizes p q before after other = go (ready marks sets sizes before)
  where
    go : (b : Bool) → Answered b (marked_rows marks sets sizes) p before after → Answered b (marked_rows marks sets sizes) q before other → (p ≡ q) × (after ≡ other)
    go true = planned_unique marked_bytes (same_mark (λ marked. marked.mark)) (marked_rows marks sets sizes) p q before after other
    go false = unplanned_unique p q before after other
