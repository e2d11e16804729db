-- The blocks of a text, each up to the next line that begins with `#`, and the rows of each.
use Rattle.std.specs.Prelude.{ℕ, zero, suc, ◌+◌, ◌-◌, cond, ◌&&◌, List, [], ◌∷◌, eqb, take, drop}
use Rattle.text.specs.Lines.{line_feed}
use Rattle.report.specs.Report.{is_hash}
use Rattle.inspect.specs.Part.{part_start, marks_in}

-- How many bytes a text's first block has: up to the LF before the next line that begins with `#`, or all.
unfoldable pub block_length : List ℕ → ℕ
block_length [] = 0
block_length (byte ∷ text) = cond (eqb byte line_feed && is_hash text) 1 (suc (block_length text))

-- The rows of a block: its lines but the version line and the column line.
abbrev pub rows_in : List ℕ → ℕ
rows_in block = marks_in line_feed block - 2

-- The rows of each block of a text, of so many blocks at most.
unfoldable pub block_rows : ℕ → List ℕ → List ℕ
block_rows zero text = []
block_rows (suc room) [] = []
block_rows (suc room) (byte ∷ text) =
    rows_in (take (block_length (byte ∷ text)) (byte ∷ text)) ∷ block_rows room (drop (block_length (byte ∷ text)) (byte ∷ text))

-- Where the block of a number starts, counted from 0; past the last one the end of the text.
unfoldable pub block_start : List ℕ → ℕ → ℕ
block_start text zero = 0
block_start text (suc number) = block_start text number + block_length (drop (block_start text number) text)

-- The bytes of the version line and the column line of that block: its first two lines.
abbrev pub head_length : List ℕ → ℕ → ℕ
head_length text number = part_start (drop (block_start text number) text) 2 line_feed
