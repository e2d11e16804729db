-- A line of a text: its bytes, its fields by position, and the columns that hold for it.
use Prim.Native.Char.{code}
use Rattle.std.specs.Prelude.{ℕ, zero, suc, ◌+◌, ◌-◌, min, ◌≡◌, Bool, cond, ◌&&◌, List, [], ◌∷◌, eqb, ltb, length, take, drop, get_or}
use Rattle.text.specs.Lines.{line_feed, bar, is_printable, fields, trim, FieldAt}
use Rattle.element.specs.Table.{elements, element_number}
use Rattle.inspect.specs.Part.{part_start}

-- How many bytes stand before the first one outside 0x20 to 0x7E; all of them where there is none.
unfoldable pub printable_front : List ℕ → ℕ
printable_front [] = 0
printable_front (byte ∷ text) = cond (is_printable byte) (suc (printable_front text)) 0

-- The index of the field at a position, counted from 1; past the last one the last.
unfoldable pub field_index : List ℕ → ℕ → ℕ
field_index line position = min (position - 1) (length (fields line) - 1)

-- The field of a line at a position.
unfoldable pub field_of : List ℕ → ℕ → List ℕ
field_of line position = get_or (fields line) (field_index line position) []

-- Where the field at a position starts in the line.
unfoldable pub field_start : List ℕ → ℕ → ℕ
field_start line position = part_start line (field_index line position) bar

-- Where the value of the field at a position lies in the line, where the field ends, and what the value is.
pub record FieldIs (line : List ℕ) (position start size till : ℕ) : Type 0 where
  pub place : FieldAt line (field_start line position) start size till
  pub value : take size (drop start line) ≡ trim (field_of line position)

-- The number of the element that a column line names at a position; 0 where it names none.
unfoldable pub element_at : List ℕ → ℕ → ℕ
element_at columns position = element_number (trim (field_of columns position))

-- The first position, of those from one on, at which an element is named; 0 where it is at none.
unfoldable pub column_from : ℕ → List (List ℕ) → ℕ → ℕ
column_from position [] element = 0
column_from position (field ∷ rest) element =
    cond (eqb (element_number (trim field)) element) position (column_from (position + 1) rest element)

-- The position of an element in a column line, counted from 1; 0 where it is not there.
unfoldable pub column_of : List ℕ → ℕ → ℕ
column_of columns element = column_from 1 (fields columns) element

-- An element of a number, counted from 1, is present in a data line: its column stands in the column line, and its field is not empty.
unfoldable pub is_present : List ℕ → List ℕ → ℕ → Bool
is_present line columns element =
    ltb 0 element && ltb 0 (column_of columns element) && ltb 0 (length (trim (field_of line (column_of columns element))))

-- The lowest element number, of so many from one on, that is present in a data line; 0 where none is.
unfoldable pub present_from : ℕ → ℕ → List ℕ → List ℕ → ℕ
present_from zero element line columns = 0
present_from (suc left) element line columns =
    cond (is_present line columns element) element (present_from left (element + 1) line columns)

-- The lowest element number from `first` to `last` that is present in a data line; 0 where none is.
unfoldable pub first_present : List ℕ → List ℕ → ℕ → ℕ → ℕ
first_present line columns first last = present_from (min last elements + 1 - first) first line columns

-- Where the column line starts that holds for the line of a number, counted from 0: after the last line before it that begins with `#`;
-- 0 where there is none.
unfoldable pub columns_before : List ℕ → ℕ → ℕ
columns_before text zero = 0
columns_before text (suc number) =
    cond (eqb (get_or text (part_start text number line_feed) 0) (code "#"))
    (part_start text (suc number) line_feed)
    (columns_before text number)
