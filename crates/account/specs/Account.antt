-- The account of a block's length, part by part.
use Rattle.std.specs.Prelude.{ℕ, ◌*◌, ◌^◌, cond, ◌&&◌, List, [], eqb, leb, length, get_or}
use Rattle.std.specs.Bool.{beq}
use Rattle.std.specs.Int.Count.{ones}
use Rattle.std.specs.List.{prefix_len}
use Rattle.element.specs.Set.{name_bytes}
use Rattle.element.specs.Observation.{is_radar_set}
use Rattle.cuts.specs.Block.{Row, most_rows, rows_of, union, value_bytes, row_count, bytes_of}
use Rattle.account.specs.declared.Block.{Block}

-- The most bytes of values that rows within the limit can have together.
abbrev pub value_limit : ℕ
value_limit = most_rows * 2 ^ 32

-- A block with these columns, these bytes of values and so many rows: "bytes are 15, plus name lengths, plus one a column, plus
-- values, plus rows times columns".
unfoldable pub closed : ℕ → ℕ → ℕ → Block
closed columns values rows =
    record {
      rows = rows;
      columns = ones columns;
      names = name_bytes columns;
      values = values;
      bytes = bytes_of columns values rows;
    }

-- The account of a block of these rows.
abbrev pub account_of : List Row → Block
account_of rows = closed (union 0 rows) (value_bytes rows) (row_count rows)

-- The account of the rows with these sets and sizes, where they are within the limit and as many sizes as sets; else that of no rows.
unfoldable pub accounted : List ℕ → List ℕ → Block
accounted sets sizes =
    cond (leb (length sets) most_rows && eqb (length sizes) (length sets)) (account_of (rows_of sets sizes)) (account_of [])

-- How many rows from the first on have the set of the first.
unfoldable pub alike : List ℕ → ℕ
alike sets = prefix_len (λ set. eqb set (get_or sets 0 0)) sets

-- How many rows from the first on are of the kind of the first, optical or radar.
unfoldable pub of_one_kind : List ℕ → ℕ
of_one_kind sets = prefix_len (λ set. beq (is_radar_set set) (is_radar_set (get_or sets 0 0))) sets
