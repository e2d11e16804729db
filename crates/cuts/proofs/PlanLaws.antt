-- The search over runs, from the costs and first blocks that are filled in to the plan. It holds for any limit `more` of a block.
use mathlib.Core.Path.{◌≡◌, refl, sym, ap, ◌∙◌}
use mathlib.Core.List.{List, [], ◌∷◌, ◌++◌}
use Prim.Native.Nat.{ℕ, ◌≤◌, ◌<◌, zero, suc}
use native.Mathlib.Omega.{arith}
use lib.ListN.{length, take, drop, get_or, get_or-append}
use lib.Seq.{take_at}
use Rattle.cuts.specs.Runs.{in_rows, ReadyRuns, PlannedRuns}
use Rattle.cuts.specs.Cheapest.{follow, best_costs, best_cost, first_more, first_blocks, chosen}
use Rattle.cuts.specs.Walk.{block_rows}
use Rattle.cuts.specs.Block.{Row, row_count, block_bytes}
use Rattle.cuts.specs.Look.{Best}
use Rattle.cuts.proofs.CheapestLaws.{costs_at, follow_at}

module _ (more : Row → List Row → ℕ) where
  -- There is a first block for each run, and a cost for each and for the end.
  firsts_long : (runs : List Row) → length (first_blocks block_bytes more runs) ≡ length runs
  unfolding first_blocks
  firsts_long [] = refl
  firsts_long (x ∷ xs) = ap suc (firsts_long xs)

  costs_long : (runs : List Row) → length (best_costs block_bytes more runs) ≡ suc (length runs)
  unfolding best_costs
  costs_long [] = refl
  costs_long (x ∷ xs) = ap suc (costs_long xs)

  -- The rows of the blocks, from the numbers of runs in them.
  rows_at : (runs runs' : List Row) (skip : ℕ) → length runs' ≡ length runs
      → block_rows skip (first_blocks block_bytes more runs) runs' ≡ in_rows (follow skip (first_blocks block_bytes more runs)) (drop skip runs')
  unfolding block_rows follow first_blocks
  rows_at [] runs' zero e = refl
  rows_at [] runs' (suc skip) e = refl
  rows_at (x ∷ xs) [] skip e = absurd (omega arith)
  rows_at (x ∷ xs) (y ∷ ys) zero e =
      ap (λ (l : List ℕ). row_count (take (suc (first_more block_bytes more x xs)) (y ∷ ys)) ∷ l) (rows_at xs ys (first_more block_bytes more x xs) (omega arith))
  rows_at (x ∷ xs) (y ∷ ys) (suc skip) e = rows_at xs ys skip (omega arith)

module _ (runs : List Row) (before costs₀ firsts₀ : List ℕ) (ready : ReadyRuns runs before) (hc : length runs < length costs₀) (hf : length runs ≤ length firsts₀) where
  module _ (more : Row → List Row → ℕ) (costs firsts costsAfter firstsAfter : List ℕ) (b : Best more runs costs firsts) where
    long : length firsts ≡ length runs
    long = ap length b.firsts_are ∙ firsts_long more runs

    -- The first blocks can be gone along.
    pub again_firsts : length runs ≡ length (take (length runs) (firsts ++ firstsAfter))
    again_firsts = rw (take_at firsts firstsAfter (length runs) long) (sym long)

    -- What is written is the chosen cut list, and the first cost is the best.
    is_cut : block_rows 0 (take (length runs) (firsts ++ firstsAfter)) runs ≡ in_rows (chosen block_bytes more runs) runs
    is_cut =
        ap (λ (l : List ℕ). block_rows 0 l runs) (take_at firsts firstsAfter (length runs) long ∙ b.firsts_are)
        ∙ rows_at more runs runs 0 refl
        ∙ ap (λ (l : List ℕ). in_rows l runs) (follow_at block_bytes more runs 0)

    is_best : get_or (costs ++ costsAfter) 0 0 ≡ best_cost block_bytes more runs
    is_best =
        get_or-append costs costsAfter 0 0 (omega (arith, ap length b.costs_are, costs_long more runs))
        ∙ ap (λ (l : List ℕ). get_or l 0 0) b.costs_are ∙ costs_at block_bytes more runs 0

    pub planned_runs : (n : ℕ) (after : List ℕ) → take n after ≡ block_rows 0 (take (length runs) (firsts ++ firstsAfter)) runs → drop n after ≡ drop n before
        → n ≤ length (take (length runs) (firsts ++ firstsAfter)) → length after ≡ length before
        → PlannedRuns more runs (record { blocks = n; bytes = get_or (costs ++ costsAfter) 0 0 }) before after
    planned_runs n after e k h l = record { within = omega (arith, again_firsts, ready.room); cut = e ∙ is_cut; bytes = is_best; kept = k }
