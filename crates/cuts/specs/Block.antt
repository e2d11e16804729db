-- What a block of rows costs in bytes: "15, plus name lengths, plus one a column, plus values, plus rows times columns".
use Rattle.std.specs.Prelude.{List, [], ◌∷◌, ℕ, ◌+◌, ◌*◌, length}
use Rattle.std.specs.Int.Bits.{bit_or}
use Rattle.std.specs.Int.Count.{ones}
use Rattle.element.specs.Set.{name_bytes}
use Rattle.cuts.specs.declared.block.Row.{Row as RowStruct}

-- A row, a struct of the code: the set of its present elements, the bytes of its values, and how many rows of the report it stands for:
-- 1, or more for a run of rows with one set.
abbrev pub Row : Type 0
Row = RowStruct

-- The most rows that the search can cut. This is a bound of its own, not the reader's limit on data lines.
abbrev pub most_rows : ℕ
most_rows = 1024

-- The most bytes that the values of these rows may have together.
abbrev pub most_bytes : ℕ
most_bytes = 65536

-- The row with this set, this size and this count.
abbrev pub row : ℕ → ℕ → ℕ → Row
row set size count = record { set = set; size = size; count = count }

-- The rows with these sets and these bytes of values.
abbrev pub rows_of : List ℕ → List ℕ → List Row
rows_of [] sizes = []
rows_of (set ∷ sets) [] = []
rows_of (set ∷ sets) (size ∷ sizes) = row set size 1 ∷ rows_of sets sizes

-- The numbers together.
unfoldable pub total : List ℕ → ℕ
total [] = 0
total (n ∷ ns) = n + total ns

-- "Columns of a block are exactly the elements present in some row of it": those of the rows, and of the set that is given.
unfoldable pub union : ℕ → List Row → ℕ
union set [] = set
union set (r ∷ rows) = union (bit_or set r.set) rows

-- The bytes of the rows' values.
unfoldable pub value_bytes : List Row → ℕ
value_bytes [] = 0
value_bytes (r ∷ rows) = r.size + value_bytes rows

-- How many rows of the report they are.
unfoldable pub row_count : List Row → ℕ
row_count [] = 0
row_count (r ∷ rows) = r.count + row_count rows

-- The bytes of a block with these columns, these bytes of values and so many rows. "The number of columns is the count of ones in that set."
unfoldable pub bytes_of : ℕ → ℕ → ℕ → ℕ
bytes_of columns values rows = 15 + name_bytes columns + ones columns + values + rows * ones columns

-- The bytes of a block of these rows.
unfoldable pub block_bytes : List Row → ℕ
block_bytes rows = bytes_of (union 0 rows) (value_bytes rows) (row_count rows)

-- All rows after x may stand in its block.
abbrev pub all_more : Row → List Row → ℕ
all_more x xs = length xs
