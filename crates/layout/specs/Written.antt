-- What a written report is: blocks of rows, each its version line, its column line and its data lines.
use Rattle.std.specs.Prelude.{ℕ, Bool, false, cond, ◌||◌, List, [], ◌∷◌, ◌++◌, map, get_or, take, drop}
use Rattle.text.specs.Lines.{line_feed, bar}
use Rattle.element.specs.Table.{name_of, column_order}
use Rattle.element.specs.Observation.{Observation, is_present, is_radar, bit}
use Rattle.report.specs.Report.{version_line}
use Rattle.cuts.specs.Cuts.{same_mark, Cuts}

-- The element of an index is present in some row.
unfoldable pub is_anywhere : List Observation → ℕ → Bool
is_anywhere [] index = false
is_anywhere (row ∷ rows) index = is_present (get_or row index []) || is_anywhere rows index

-- Those that pass a test, in their order.
unfoldable pub passing : (ℕ → Bool) → List ℕ → List ℕ
passing test [] = []
passing test (index ∷ indices) = cond (test index) (index ∷ passing test indices) (passing test indices)

-- Columns of a block are exactly the elements present in some row of it, in element order.
unfoldable pub columns_of : List Observation → List ℕ
columns_of rows = passing (is_anywhere rows) column_order

-- Fields parted by bars.
unfoldable pub barred : List (List ℕ) → List ℕ
barred [] = []
barred (field ∷ []) = field
barred (field ∷ next ∷ fields) = field ++ (bar ∷ barred (next ∷ fields))

-- A line of fields. No padding, and LF after every line.
unfoldable pub line_of : List (List ℕ) → List ℕ
line_of fields = barred fields ++ (line_feed ∷ [])

-- The names of the columns.
abbrev pub names_at : List ℕ → List (List ℕ)
names_at columns = map name_of columns

-- The values of a row at the columns, empty where an element is absent.
abbrev pub values_at : List ℕ → Observation → List (List ℕ)
values_at columns row = map (λ index. get_or row index []) columns

-- The data lines. Rows keep the report's order.
unfoldable pub data_lines : List ℕ → List Observation → List ℕ
data_lines columns [] = []
data_lines columns (row ∷ rows) = line_of (values_at columns row) ++ data_lines columns rows

-- A block: version line, column line, data lines.
unfoldable pub block_text : List Observation → List ℕ
block_text rows = line_of (version_line ∷ []) ++ (line_of (names_at (columns_of rows)) ++ data_lines (columns_of rows) rows)

-- A report written by its cuts, the blocks' numbers of rows in order. Without cuts nothing is written.
unfoldable pub written : List ℕ → List Observation → List ℕ
written [] rows = []
written (count ∷ counts) rows = block_text (take count rows) ++ written counts (drop count rows)

-- The mark of an observation, which those of one block have in common: its kind.
abbrev pub mark_of : Observation → ℕ
mark_of observation = bit (is_radar observation)

-- How many of the rows after a row may stand in its block: those of its mark, up to the first of another one. A block holds one kind.
abbrev pub may_follow : Observation → List Observation → ℕ
may_follow row rows = same_mark mark_of row rows

-- Cuts of the rows: each block has a row at least and holds one kind, and together they have every row.
abbrev pub Valid : List ℕ → List Observation → Type 0
Valid cuts rows = Cuts may_follow cuts rows
