-- A table written as a text: rows between LFs, in a row entries between bars.
use Rattle.std.specs.Prelude.{ℕ, zero, suc, ◌+◌, cond, List, Option, Some, None, ltb}
use Rattle.text.specs.Lines.{line_feed, bar}
use Rattle.text.specs.Part.{same}
use Rattle.inspect.specs.Part.{part_of, marks_in}

-- The entry of a row in a column, both counted from 0; empty where there is none.
unfoldable pub entry_of : List ℕ → ℕ → ℕ → List ℕ
entry_of table row column = part_of (part_of table row line_feed) column bar

-- The first of so many rows, from one on, whose first entry is a name; the row after them where there is none.
unfoldable pub row_from : ℕ → ℕ → List ℕ → List ℕ → ℕ
row_from zero row table name = row
row_from (suc left) row table name = cond (same (entry_of table row 0) name) row (row_from left (row + 1) table name)

-- The row of a name, counted from 0; the number of rows where there is none.
unfoldable pub row_of : List ℕ → List ℕ → ℕ
row_of table name = row_from (marks_in line_feed table) 0 table name

-- The row of a name, none where it is in no row.
abbrev pub found_row : List ℕ → List ℕ → Option ℕ
found_row table name = cond (ltb (row_of table name) (marks_in line_feed table)) (Some (row_of table name)) None
