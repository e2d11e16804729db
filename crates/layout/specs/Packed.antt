-- The promise of packing, over what reading means. Nothing here speaks of a search.
use Rattle.std.specs.Prelude.{ℕ, ◌≤◌, ◌≡◌, List, length}
use Rattle.element.specs.Observation.{Observation}
use Rattle.report.specs.Report.{accepted, read}
use Rattle.cuts.specs.Cuts.{Yields}
use Rattle.layout.specs.Written.{written, Valid}

-- The cuts are those of the packed report of the observations: what is written by them reads back, no text that reads as the observations
-- is shorter, and every other cutting as short yields to these cuts.
pub record ShortestCuts (observations : List Observation) (cuts : List ℕ) : Type 0 where
  pub valid : Valid cuts observations
  pub reads : read (written cuts observations) ≡ accepted observations
  pub least : (other : List ℕ) → read other ≡ accepted observations → length (written cuts observations) ≤ length other
  pub last : (others : List ℕ) → Valid others observations → length (written others observations) ≡ length (written cuts observations)
      → Yields others cuts

-- The text is the packed report of the observations: they are written by those cuts.
pub record PackedIs (observations : List Observation) (text : List ℕ) : Type 0 where
  pub cuts : List ℕ
  pub shortest : ShortestCuts observations cuts
  pub is : text ≡ written cuts observations
