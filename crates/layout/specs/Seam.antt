-- Two reports that can be joined; the seam, which is after the rows of the first one; and the block of the joined report that spans it, over
-- cuts and written bytes alone. Nothing here speaks of a search.
use Rattle.std.specs.Prelude.{ℕ, ◌-◌, ◌≤◌, ◌≡◌, Bool, false, cond, List, [], ◌∷◌, ◌++◌, leb, ltb, length, take, drop}
use Rattle.element.specs.Observation.{Observation}
use Rattle.report.specs.Report.{text_limit, row_limit, version_line, accepted, read}
use Rattle.layout.specs.Written.{columns_of, line_of, names_at}

-- Two accepted reports, a of the observations A and b of the observations B, whose bytes one after the other are within both limits.
pub record Joinable (a b : List ℕ) (A B : List Observation) : Type 0 where
  pub first : read a ≡ accepted A
  pub second : read b ≡ accepted B
  pub bytes : length (a ++ b) ≤ text_limit
  pub rows : length (A ++ B) ≤ row_limit

-- Some block spans the seam after n rows: it has rows before the seam and rows after it. Blocks that end before the seam, or at it, do not.
unfoldable pub spans : List ℕ → ℕ → Bool
spans [] n = false
spans (count ∷ counts) n = cond (leb count n) (spans counts (n - count)) (ltb 0 n)

-- The rows of that block.
unfoldable pub seam_block : List ℕ → ℕ → List Observation → List Observation
seam_block [] n rows = []
seam_block (count ∷ counts) n rows = cond (leb count n) (seam_block counts (n - count) (drop count rows)) (take count rows)

-- The version line and the column line of a block of rows, with their LFs.
unfoldable pub head_text : List Observation → List ℕ
head_text rows = line_of (version_line ∷ []) ++ line_of (names_at (columns_of rows))
