-- What the private functions of packing promise each other. A reviewer of the promise can skip this file.
use Rattle.std.specs.Prelude.{ℕ, ◌+◌, ◌≤◌, ◌<◌, ◌≡◌, Bool, cond, ◌&&◌, List, [], ◌∷◌, ◌++◌, map, eqb, leb, ltb, length, take, drop, get_or, Result, Ok, Err}
use Rattle.text.specs.Lines.{line_feed, bar}
use Rattle.text.specs.Output.{over, put_over}
use Rattle.refusal.specs.declared.Refusal.{Refusal}
use Rattle.element.specs.Set.{has}
use Rattle.element.specs.Table.{elements, column_order}
use Rattle.element.specs.Observation.{Observation, bit, is_radar_set}
use Rattle.report.specs.Report.{Outcome, accepted, refused, read, row_limit}
use Rattle.report.specs.Starts.{starts_in}
use Rattle.report.specs.Index.{row_at, Noted, noted_bytes}
use Rattle.report.specs.declared.index.Row.{Row}
use Rattle.cuts.specs.Plan.{ShortestPromised}
use Rattle.cuts.specs.declared.Plan.{Plan}
use Rattle.layout.specs.Packed.{ShortestCuts}
use Rattle.layout.specs.Written.{passing, line_of, values_at, data_lines, block_text, written, Valid}
use Rattle.pack.specs.declared.Measured.{Measured}

-- The observations of what a report reads as, none where it is refused.
abbrev pub observations_of : Outcome → List Observation
observations_of (accepted observations) = observations
observations_of (refused refusal) = []

-- The observations of a report.
unfoldable pub observed : List ℕ → List Observation
observed report = observations_of (read report)

-- The rows of an index note every observation of the report.
pub record Indexed (report : List ℕ) (rows : List Row) : Type 0 where
  pub room : length (observed report) ≤ length rows
  pub noted : (i : ℕ) → i < length (observed report) → Noted report (row_at rows i) (get_or (observed report) i []) (get_or (starts_in report) i [])

-- The value of an element of a row of the report.
abbrev pub value_in : List ℕ → ℕ → ℕ → List ℕ
value_in report row element = get_or (get_or (observed report) row []) element []

-- ---- writing

-- A text was written over the start of an output, and the answer is its length.
pub record Wrote (text before after : List ℕ) (answer : ℕ) : Type 0 where
  pub answer_is : answer ≡ length text
  pub output_is : after ≡ over text before

-- The byte after field k of n, counted from 1: a bar where another field follows, else LF.
abbrev pub end_of : ℕ → ℕ → ℕ
end_of k n = cond (ltb k n) bar line_feed

-- A field and the byte after it.
abbrev pub field_text : List ℕ → ℕ → List ℕ
field_text value end = value ++ (end ∷ [])

-- There is a column, and each is an element.
pub record Columns (columns : List ℕ) : Type 0 where
  pub some : 0 < length columns
  pub known : (k : ℕ) → k < length columns → get_or columns k 0 < elements

-- The line of a row under the columns.
abbrev pub row_line : List ℕ → List ℕ → ℕ → List ℕ
row_line report columns row = line_of (values_at columns (get_or (observed report) row []))

-- The index notes a row of the report, and there are columns to write it under.
abbrev pub RowUnder : List ℕ → List Row → List ℕ → ℕ → Type 0
RowUnder report rows columns row = Indexed report rows × (row < length (observed report)) × Columns columns

-- A row of the report can be written.
pub record RowAsks (report : List ℕ) (rows : List Row) (columns output : List ℕ) (row : ℕ) : Type 0 where
  pub indexed : Indexed report rows
  pub inside : row < length (observed report)
  pub columns_are : Columns columns
  pub room : length (row_line report columns row) ≤ length output

-- A text stands in the report from a start on, up to an end.
pub record StandsTo (report : List ℕ) (start : ℕ) (text : List ℕ) (end : ℕ) : Type 0 where
  pub ends : end ≡ start + length text
  pub inside : end ≤ length report
  pub is : take (length text) (drop start report) ≡ text

-- ---- columns

-- The elements of a set, in the order in which columns are written.
unfoldable pub columns_in : ℕ → List ℕ
columns_in set = passing (has set) column_order

-- ---- blocks

-- So many rows of the report, from a first one on.
abbrev pub rows_from : List ℕ → ℕ → ℕ → List Observation
rows_from report first count = take count (drop first (observed report))

-- The data lines of these rows can be written.
pub record RowsAsk (report : List ℕ) (rows : List Row) (columns output : List ℕ) (first count : ℕ) : Type 0 where
  pub indexed : Indexed report rows
  pub inside : first + count ≤ length (observed report)
  pub columns_are : Columns columns
  pub room : length (data_lines columns (rows_from report first count)) ≤ length output

-- The block of these rows can be written.
pub record BlockAsks (report : List ℕ) (rows : List Row) (output : List ℕ) (first count : ℕ) : Type 0 where
  pub indexed : Indexed report rows
  pub some : 0 < count
  pub inside : first + count ≤ length (observed report)
  pub room : length (block_text (rows_from report first count)) ≤ length output

-- The report can be written by these cuts.
pub record BlocksAsk (report : List ℕ) (rows : List Row) (cuts output : List ℕ) : Type 0 where
  pub indexed : Indexed report rows
  pub valid : Valid cuts (observed report)
  pub room : length (written cuts (observed report)) ≤ length output

-- ---- the plan

-- The mark of the observation with this set.
abbrev pub mark_in : ℕ → ℕ
mark_in set = bit (is_radar_set set)

-- The rows are cut, by the marks, the sets and the sizes of what they note.
pub record RowsCut (rows : List Row) (before after : List ℕ) (plan : Plan) : Type 0 where
  pub promised : ShortestPromised (map (λ row. mark_in row.present) rows) (map (λ row. row.present) rows) (map noted_bytes rows) plan before after

-- There are no more rows than so many; the lent rows are more, since the reader uses the last itself, and there is room for their cuts.
pub record RoomFor (count most : ℕ) (rows : List Row) (cuts : List ℕ) : Type 0 where
  pub few : count ≤ most
  pub most_few : most ≤ row_limit
  pub rows_room : count < length rows
  pub cuts_room : count ≤ length cuts

-- The report has no more than so many rows, and its index one row more.
abbrev pub RoomAsks : List ℕ → ℕ → ℕ → Type 0
RoomAsks report rows noted = (length (observed report) ≤ rows) × (rows ≤ row_limit) × (noted ≡ rows + 1)

-- The first of the cuts are those of the packed report, which has so many bytes, and the rows note the report.
pub record CutIs (report : List ℕ) (rows : List Row) (cuts : List ℕ) (plan : Plan) : Type 0 where
  pub is : read report ≡ accepted (observed report)
  pub indexed : Indexed report rows
  pub within : plan.blocks ≤ length cuts
  pub shortest : ShortestCuts (observed report) (take plan.blocks cuts)
  pub bytes_are : plan.bytes ≡ length (written (take plan.blocks cuts) (observed report))

-- By what planning answers.
abbrev pub PlannedCase : List ℕ → List Row → List ℕ → Result Plan Refusal → Type 0
PlannedCase report rows cuts (Ok plan) = CutIs report rows cuts plan
PlannedCase report rows cuts (Err refusal) = read report ≡ refused refusal

-- What planning promises: the cuts of the packed report, or the report's refusal.
pub record PlannedIs (report : List ℕ) (rows : List Row) (cuts : List ℕ) (answer : Result Plan Refusal) : Type 0 where
  pub case : PlannedCase report rows cuts answer

-- ---- the answers

-- The length and the number of blocks of a plan are given, and its cuts are put over the start of the lent list.
pub record Given (found : List ℕ) (plan : Plan) (before after : List ℕ) (answer : Measured) : Type 0 where
  pub answer_is : answer ≡ record { length = plan.bytes; blocks = plan.blocks }
  pub list_is : after ≡ put_over (take plan.blocks found) before

-- ---- short reports

-- How many LFs a text has.
unfoldable pub feeds : List ℕ → ℕ
feeds [] = 0
feeds (byte ∷ text) = cond (eqb byte line_feed) (1 + feeds text) (feeds text)

-- The most rows that a short report has, and the most bytes.
abbrev pub short_rows : ℕ
short_rows = 16

abbrev pub short_text : ℕ
short_text = 2048

-- The report is short: it has no more bytes than that, and no more lines than a short report can have rows.
unfoldable pub is_short : List ℕ → Bool
is_short report = leb (length report) short_text && leb (feeds report) short_rows
