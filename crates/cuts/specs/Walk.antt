-- A reviewer can skip this file: what private functions know while they go along the first blocks and write the cut list.
use Rattle.std.specs.Prelude.{◌≡◌, List, [], ◌∷◌, ◌++◌, ℕ, zero, suc, pred, ◌≤◌, length, take, drop}
use Rattle.cuts.specs.Block.{most_rows, Row, row_count}
use Rattle.cuts.specs.declared.cut_list.Walk.{Walk}

-- The rows of each block, from the runs of the first blocks and the runs: after a block of f runs, the f - 1 that follow are passed over.
unfoldable pub block_rows : ℕ → List ℕ → List Row → List ℕ
block_rows skip [] runs = []
block_rows skip (f ∷ firsts) [] = []
block_rows zero (f ∷ firsts) (x ∷ runs) = row_count (take f (x ∷ runs)) ∷ block_rows (pred f) firsts runs
block_rows (suc skip) (f ∷ firsts) (x ∷ runs) = block_rows skip firsts runs

-- The lists can be gone along: there is room, and the rows are few.
pub record Walkable (runs : List Row) (firsts cuts : List ℕ) : Type 0 where
  pub same : length runs ≡ length firsts
  pub room : length firsts ≤ length cuts
  pub few : row_count runs ≤ most_rows

-- The first i runs have been passed: what they give is written, and the rest of the cut list follows from the rest of the runs.
pub record Written (runs : List Row) (firsts before : List ℕ) (i : ℕ) (walk : Walk) (cuts : List ℕ) : Type 0 where
  pub same : length cuts ≡ length before
  pub few : walk.written ≤ i
  pub kept : drop walk.written cuts ≡ drop walk.written before
  pub wrote : take walk.written cuts ++ block_rows walk.skip (drop i firsts) (drop i runs) ≡ block_rows 0 firsts runs
