-- Where the reader notes an accepted report's values, for the crates above: in rows, one for each observation.
use Rattle.std.specs.Prelude.{ℕ, ◌+◌, ◌-◌, ◌≤◌, ◌<◌, min, ◌≡◌, List, [], Bool, true, cond, ◌&&◌, ltb, length, take, drop, get_or, Result, Ok, Err}
use Rattle.refusal.specs.declared.Refusal.{Refusal}
use Rattle.element.specs.Table.{elements}
use Rattle.element.specs.Set.{has, bytes_in}
use Rattle.element.specs.Observation.{Observation, is_present, set_of}
use Rattle.report.specs.Report.{accepted, refused, read, row_limit}
use Rattle.report.specs.Starts.{starts_in}
use Rattle.report.specs.declared.index.Row.{Row}

-- The row of a number, counted from 0; past the last one a row without entries.
abbrev pub row_at : List Row → ℕ → Row
row_at rows i = get_or rows i (record { present = 0; starts = []; lengths = [] })

-- How many observations the rows have room for; the last row is for the reader's own use.
abbrev pub room_in : List Row → ℕ
room_in rows = length rows - 1

-- The entries of an element note the value v, which lies at a place of the text.
pub record Slot (t starts lengths : List ℕ) (e place : ℕ) (v : List ℕ) : Type 0 where
  pub start_is : get_or starts e 0 ≡ place
  pub length_is : get_or lengths e 0 ≡ length v
  pub inside : place + length v ≤ length t
  pub holds : take (length v) (drop place t) ≡ v

-- The entries note an observation's present values, each where it starts.
abbrev pub Shows : List ℕ → List ℕ → List ℕ → Observation → List ℕ → Type 0
Shows t starts lengths o at =
    (e : ℕ) → e < elements → is_present (get_or o e []) ≡ true → Slot t starts lengths e (get_or at e 0) (get_or o e [])

-- A row notes an observation: its set of present elements, and its present values.
pub record Noted (t : List ℕ) (row : Row) (o : Observation) (at : List ℕ) : Type 0 where
  pub set_is : row.present ≡ set_of o
  pub shows : Shows t row.starts row.lengths o at

-- An accepted report of k observations; those from the first on, as many as there is room for, are noted in rows 0, 1, ..
pub record AcceptedIs (t : List ℕ) (first room : ℕ) (rows : List Row) (k : ℕ) : Type 0 where
  pub observations : List Observation
  pub is : read t ≡ accepted observations
  pub count : length observations ≡ k
  pub few : k ≤ row_limit
  pub noted : (i : ℕ) → i < room → first + i < k
      → Noted t (row_at rows i) (get_or observations (first + i) []) (get_or (starts_in t) (first + i) [])

-- What indexing promises. Of a refused report only the refusal: the rows are then settled by nothing.
abbrev pub IndexCase : List ℕ → ℕ → ℕ → List Row → Result ℕ Refusal → Type 0
IndexCase t first room rows (Ok k) = AcceptedIs t first room rows k
IndexCase t first room rows (Err r) = read t ≡ refused r

pub record IndexIs (t : List ℕ) (first room : ℕ) (rows : List Row) (r : Result ℕ Refusal) : Type 0 where
  pub case : IndexCase t first room rows r

-- ---- a value read off an index

-- The rows note a value of an element of a row, both counted from 0: there is such a row, and its set has the element.
unfoldable pub is_noted : List Row → ℕ → ℕ → Bool
is_noted rows row element = ltb row (length rows) && (ltb element elements && has (row_at rows row).present element)

-- The value that the rows note of an element of a row: as many bytes of the text as are noted, from the start that is noted on; none where
-- no value is noted.
unfoldable pub noted_value : List ℕ → List Row → ℕ → ℕ → List ℕ
noted_value t rows row element =
    cond (is_noted rows row element)
    (take (get_or (row_at rows row).lengths element 0) (drop (get_or (row_at rows row).starts element 0) t))
    []

-- ---- the sizes of rows

-- The bytes of a row's values, as it notes their lengths.
abbrev pub noted_bytes : Row → ℕ
noted_bytes row = bytes_in row.lengths row.present

-- How many sizes of rows there is room for.
abbrev pub sizes_in : List Row → List ℕ → ℕ
sizes_in rows sizes = min (length sizes) (length rows)

-- The sizes of so many rows are filled in, and the numbers after them stay.
pub record Sized (rows : List Row) (before after : List ℕ) (count : ℕ) : Type 0 where
  pub long : length after ≡ length before
  pub at : (row : ℕ) → row < count → get_or after row 0 ≡ noted_bytes (row_at rows row)
  pub kept : (row : ℕ) → count ≤ row → get_or after row 0 ≡ get_or before row 0
