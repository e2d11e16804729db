-- What the loops of the comparison keep. A reviewer of the rules can skip this file.
use Rattle.std.specs.Prelude.{ℕ, ◌≤◌, List, [], length}
use Rattle.element.specs.Observation.{Observation}
use Rattle.report.specs.Report.{Outcome, accepted, refused, row_limit}
use Rattle.report.specs.Index.{AcceptedIs}
use Rattle.report.specs.declared.index.Row.{Row}

-- The observations of what a text reads as; none of a refused one.
unfoldable pub observations_of : Outcome → List Observation
observations_of (accepted observations) = observations
observations_of (refused x) = []

-- The index notes every observation of a text, of which there are so many, and has a row for every observation that a text can have.
pub record NotesAll (t : List ℕ) (rows : List Row) (count : ℕ) : Type 0 where
  pub accepts : AcceptedIs t 0 row_limit rows count
  pub holds : row_limit ≤ length rows
