-- A reviewer can skip this file: runs of rows with one set, and what private functions know of them.
use Rattle.std.specs.Prelude.{◌≡◌, Bool, true, false, cond, List, [], ◌∷◌, ℕ, ◌+◌, ◌≤◌, eqb, length, take, drop}
use Rattle.cuts.specs.Block.{most_rows, most_bytes, Row, row, rows_of, value_bytes, row_count, block_bytes}
use Rattle.cuts.specs.Cheapest.{best_cost, chosen}
use Rattle.cuts.specs.declared.Plan.{Plan}

-- The row x before the run: one run where the test says so, else two.
abbrev pub onto_run : Bool → Row → Row → List Row → List Row
onto_run true x run runs = row x.set (x.size + run.size) (x.count + run.count) ∷ runs
onto_run false x run runs = x ∷ run ∷ runs

-- The row x before the runs: it joins the first of them where they have one set.
abbrev pub onto : Row → List Row → List Row
onto x [] = x ∷ []
onto x (run ∷ runs) = onto_run (eqb run.set x.set) x run runs

-- The runs of the rows.
unfoldable pub press : List Row → List Row
press [] = []
press (x ∷ xs) = onto x (press xs)

-- 1 where a set is another than the one before it, else 0.
abbrev pub change : ℕ → ℕ → ℕ
change set before = cond (eqb set before) 0 1

-- How often the set changes along the sets, from the one before them.
unfoldable pub changes : ℕ → List ℕ → ℕ
changes before [] = 0
changes before (set ∷ sets) = change set before + changes set sets

-- How many runs rows with these sets have.
unfoldable pub runs_in : List ℕ → ℕ
runs_in [] = 0
runs_in (set ∷ sets) = 1 + changes set sets

-- The most runs that are cut in short lists.
abbrev pub few_runs : ℕ
few_runs = 16

-- A cut list in rows, from the one in runs.
abbrev pub in_rows : List ℕ → List Row → List ℕ
in_rows [] runs = []
in_rows (k ∷ ks) runs = row_count (take k runs) ∷ in_rows ks (drop k runs)

-- The rows are within the limits, and there is room for their cuts.
pub record Ready (sets sizes cuts : List ℕ) : Type 0 where
  pub same : length sizes ≡ length sets
  pub few : length sets ≤ most_rows
  pub sum : value_bytes (rows_of sets sizes) ≤ most_bytes
  pub room : length sets ≤ length cuts

-- The runs are within the limits, and there is room for their cuts.
pub record ReadyRuns (runs : List Row) (cuts : List ℕ) : Type 0 where
  pub few : length runs ≤ most_rows
  pub sum : value_bytes runs ≤ most_bytes
  pub all : row_count runs ≤ most_rows
  pub room : length runs ≤ length cuts

-- The chosen cut list of the runs is written, in rows, and the plan says its bytes.
pub record PlannedRuns (more : Row → List Row → ℕ) (runs : List Row) (plan : Plan) (before after : List ℕ) : Type 0 where
  pub within : plan.blocks ≤ length after
  pub cut : take plan.blocks after ≡ in_rows (chosen block_bytes more runs) runs
  pub bytes : plan.bytes ≡ best_cost block_bytes more runs
  pub kept : drop plan.blocks after ≡ drop plan.blocks before

-- The rows are within the limits, and there is room for their runs.
pub record Room (sets sizes : List ℕ) (runs : List Row) : Type 0 where
  pub same : length sizes ≡ length sets
  pub few : length sets ≤ most_rows
  pub sum : value_bytes (rows_of sets sizes) ≤ most_bytes
  pub fits : length (press (rows_of sets sizes)) ≤ length runs

-- The rows from i on are the runs from j on.
pub record Pressed (sets sizes : List ℕ) (i : ℕ) (runs : List Row) (j : ℕ) : Type 0 where
  pub room : Room sets sizes runs
  pub within : j ≤ length runs
  pub are : drop j runs ≡ press (drop i (rows_of sets sizes))
