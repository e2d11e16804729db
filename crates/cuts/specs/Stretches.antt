-- A reviewer can skip this file: what private functions know of a stretch of rows with one mark.
use Rattle.std.specs.Prelude.{◌≡◌, List, ℕ, ◌+◌, ◌≤◌, ◌<◌, length, drop, get_or}
use Rattle.cuts.specs.Cuts.{stretch}

-- The stretch that begins at one place of the marks ends before another.
pub record StretchEnds (marks : List ℕ) (at end : ℕ) : Type 0 where
  pub some : at < end
  pub within : end ≤ length marks
  pub is : end ≡ at + stretch (λ mark. mark) (get_or marks at 0) (drop at marks)
