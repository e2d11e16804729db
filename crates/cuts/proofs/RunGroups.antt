-- The runs of rows are groups of rows with one set, each summed up as one run.
use mathlib.Core.Path.{◌≡◌, refl, sym, ap, ap₂, ◌∙◌}
use mathlib.Core.Bool.{Bool, true, false}
use mathlib.Core.List.{List, [], ◌∷◌, ◌++◌, map}
use Prim.Native.Nat.{ℕ, zero, suc, ◌+◌}
use native.Mathlib.Omega.{arith}
use lib.ListN.{length, take, drop, length-append}
use lib.Dec.{eqb}
use lib.Bits.{bit_or, or_comm}
use borrow.Author.Tests.{eqb-true}
use native.Mathlib.Nat.{add-zero}
use Rattle.cuts.specs.Runs.{onto_run, onto, press, in_rows}
use Rattle.cuts.specs.Block.{Row, row, rows_of, union, value_bytes, row_count, bytes_of, block_bytes}
use Rattle.cuts.proofs.UnionLaws.{or_twice}
use Rattle.cuts.proofs.Trades.{SameSet, union_or}
use Rattle.cuts.proofs.GroupCuts.{flat, group_rows, Chain, Chains}
use Rattle.cuts.proofs.SumLaws.{union_append, values_append, count_append}

-- ---- groups of rows with one set

-- The row x before the group: one group where the test says so, else two.
abbrev joined_group : Bool → Row → List Row → List (List Row) → List (List Row)
joined_group true x g gs = (x ∷ g) ∷ gs
joined_group false x g gs = (x ∷ []) ∷ g ∷ gs

-- The row x before the groups: it joins the first of them where they have one set.
abbrev onto_group : Row → List (List Row) → List (List Row)
onto_group x [] = (x ∷ []) ∷ []
onto_group x ([] ∷ gs) = (x ∷ []) ∷ gs
onto_group x ((y ∷ g) ∷ gs) = joined_group (eqb y.set x.set) x (y ∷ g) gs

-- The groups of the rows.
abbrev pub group : List Row → List (List Row)
group [] = []
group (x ∷ xs) = onto_group x (group xs)

-- Each row stands for one row of the report.
abbrev pub AllOne : List Row → Type 0
AllOne [] = Unit
AllOne (x ∷ xs) = (x.count ≡ 1) × AllOne xs

pub rows_one : (sets sizes : List ℕ) → AllOne (rows_of sets sizes)
rows_one [] sizes = tt
rows_one (m ∷ sets) [] = tt
rows_one (m ∷ sets) (s ∷ sizes) = (refl, rows_one sets sizes)

-- The groups are the rows in their order.
flat_onto : (x : Row) (gs : List (List Row)) → flat (onto_group x gs) ≡ x ∷ flat gs
flat_onto x [] = refl
flat_onto x ([] ∷ gs) = refl
flat_onto x ((y ∷ g) ∷ gs) = go (eqb y.set x.set)
  where
    go : (b : Bool) → flat (joined_group b x (y ∷ g) gs) ≡ x ∷ y ∷ (g ++ flat gs)
    go true = refl
    go false = refl

pub flat_group : (rows : List Row) → flat (group rows) ≡ rows
flat_group [] = refl
flat_group (x ∷ xs) = flat_onto x (group xs) ∙ ap (λ (r : List Row). x ∷ r) (flat_group xs)

-- Each group has one set.
chains_onto : (x : Row) (gs : List (List Row)) → x.count ≡ 1 → Chains SameSet gs → Chains SameSet (onto_group x gs)
chains_onto x [] o c = (tt, tt)
chains_onto x ([] ∷ gs) o c = absurd c.0
chains_onto x ((y ∷ g) ∷ gs) o c = go (eqb y.set x.set) refl
  where
    go : (b : Bool) → eqb y.set x.set ≡ b → Chains SameSet (joined_group b x (y ∷ g) gs)
    go true e = (((sym (eqb-true y.set x.set e), omega arith), c.0), c.1)
    go false e = (tt, c)

pub chains_group : (rows : List Row) → AllOne rows → Chains SameSet (group rows)
chains_group [] o = tt
chains_group (x ∷ xs) o = chains_onto x (group xs) o.0 (chains_group xs o.1)

-- ---- a group as one run

-- A group summed up.
abbrev pub summary : List Row → Row
summary g = row (union 0 g) (value_bytes g) (row_count g)

union_from : (a : ℕ) (b : List Row) → union a b ≡ bit_or a (union 0 b)
union_from a b = union_or 0 a b ∙ or_comm (union 0 b) a

union_flat : (a : ℕ) (gs : List (List Row)) → union a (map summary gs) ≡ union a (flat gs)
unfolding union
union_flat a [] = refl
union_flat a (g ∷ gs) =
    ap (λ (n : ℕ). union n (map summary gs)) (sym (union_from a g)) ∙ union_flat (union a g) gs ∙ sym (union_append a g (flat gs))

sums_flat : (gs : List (List Row)) → (value_bytes (map summary gs) ≡ value_bytes (flat gs)) × (row_count (map summary gs) ≡ row_count (flat gs))
unfolding value_bytes row_count
sums_flat [] = (refl, refl)
sums_flat (g ∷ gs) = (omega (arith, (sums_flat gs).0, values_append g (flat gs)), omega (arith, (sums_flat gs).1, count_append g (flat gs)))

-- A block of groups summed up costs what the block of their rows costs.
pub block_flat : (gs : List (List Row)) → block_bytes (map summary gs) ≡ block_bytes (flat gs)
unfolding block_bytes
block_flat gs = λ i. bytes_of (union_flat 0 gs i) ((sums_flat gs).0 i) ((sums_flat gs).1 i)

-- A group's set is its first row's.
chain_set : (x : Row) (g : List Row) (a : ℕ) → Chain SameSet (x ∷ g) → union a (x ∷ g) ≡ bit_or a x.set
unfolding union
chain_set x [] a c = refl
chain_set x (y ∷ g) a c = chain_set y g (bit_or a x.set) c.1 ∙ ap (bit_or (bit_or a x.set)) (sym c.0.0) ∙ or_twice a x.set

alone : (x : Row) → x ≡ summary (x ∷ [])
unfolding union value_bytes row_count
alone x = λ i. row x.set (sym (add-zero x.size) i) (sym (add-zero x.count) i)

press_onto : (x : Row) (gs : List (List Row)) → x.count ≡ 1 → Chains SameSet gs → onto x (map summary gs) ≡ map summary (onto_group x gs)
unfolding value_bytes row_count
press_onto x [] o c = ap (λ (r : Row). r ∷ []) (alone x)
press_onto x ([] ∷ gs) o c = absurd c.0
press_onto x ((y ∷ g) ∷ gs) o c =
    ap (λ (m : ℕ). onto_run (eqb m x.set) x (summary (y ∷ g)) (map summary gs)) (chain_set y g 0 c.0)
    ∙ go (eqb y.set x.set) refl
  where
    go : (b : Bool) → eqb y.set x.set ≡ b → onto_run b x (summary (y ∷ g)) (map summary gs) ≡ map summary (joined_group b x (y ∷ g) gs)
    go true e =
        ap (λ (m : ℕ). row m (x.size + value_bytes (y ∷ g)) (x.count + row_count (y ∷ g)) ∷ map summary gs)
        (sym (chain_set x (y ∷ g) 0 ((sym (eqb-true y.set x.set e), omega arith), c.0)))
    go false e = ap (λ (r : Row). r ∷ summary (y ∷ g) ∷ map summary gs) (alone x)

-- The runs of the rows are their groups summed up.
pub press_is : (rows : List Row) → AllOne rows → press rows ≡ map summary (group rows)
unfolding press
press_is [] o = refl
press_is (x ∷ xs) o = ap (onto x) (press_is xs o.1) ∙ press_onto x (group xs) o.0 (chains_group xs o.1)

-- ---- the numbers of rows

one_count : (g r : List Row) → AllOne (g ++ r) → (row_count g ≡ length g) × AllOne r
unfolding row_count
one_count [] r o = (refl, o)
one_count (x ∷ g) r o = (omega (arith, o.0, (one_count g r o.1).0), (one_count g r o.1).1)

drop_one : (k : ℕ) (gs : List (List Row)) → AllOne (flat gs) → AllOne (flat (drop k gs))
drop_one zero gs o = o
drop_one (suc k) [] o = o
drop_one (suc k) (g ∷ gs) o = drop_one k gs (one_count g (flat gs) o).1

count_flat : (k : ℕ) (gs : List (List Row)) → AllOne (flat gs) → row_count (take k (map summary gs)) ≡ length (flat (take k gs))
unfolding row_count
count_flat zero gs o = refl
count_flat (suc k) [] o = refl
count_flat (suc k) (g ∷ gs) o =
    omega (arith, (one_count g (flat gs) o).0, count_flat k gs (one_count g (flat gs) o).1, length-append g (flat (take k gs)))

drop_summary : (k : ℕ) (gs : List (List Row)) → drop k (map summary gs) ≡ map summary (drop k gs)
drop_summary zero gs = refl
drop_summary (suc k) [] = refl
drop_summary (suc k) (g ∷ gs) = drop_summary k gs

-- A cut list of the groups in rows.
pub in_rows_groups : (js : List ℕ) (gs : List (List Row)) → AllOne (flat gs) → in_rows js (map summary gs) ≡ group_rows js gs
in_rows_groups [] gs o = refl
in_rows_groups (j ∷ js) gs o =
    ap₂ ◌∷◌ (count_flat j gs o) (ap (in_rows js) (drop_summary j gs) ∙ in_rows_groups js (drop j gs) (drop_one j gs o))
