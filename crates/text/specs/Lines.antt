-- From bytes to lines, from a line to fields, from a field to its value.
use Rattle.std.specs.Prelude.{ℕ, zero, suc, ◌+◌, ◌≤◌, ◌≡◌, List, [], ◌∷◌, Bool, true, cond, ◌&&◌, length, take, drop, eqb, leb}

-- LF, which stands after every line; the bar, which parts fields; the blank.
abbrev pub line_feed : ℕ
line_feed = 10

abbrev pub bar : ℕ
bar = 124

abbrev pub blank : ℕ
blank = 32

-- A byte 0x20 to 0x7E.
abbrev pub is_printable : ℕ → Bool
is_printable b = leb 32 b && leb b 126

-- Every byte is 0x20 to 0x7E.
abbrev pub printable : List ℕ → Bool
printable [] = true
printable (b ∷ t) = is_printable b && printable t

-- How many bytes stand before the first one that is the mark; all of them where none is.
abbrev pub up_to : ℕ → List ℕ → ℕ
up_to mark [] = zero
up_to mark (b ∷ t) = cond (eqb b mark) zero (suc (up_to mark t))

-- The bytes before the first LF.
abbrev pub first_line : List ℕ → List ℕ
first_line [] = []
first_line (b ∷ t) = cond (eqb b line_feed) [] (b ∷ first_line t)

-- A text by its lines: nothing left; bytes with no LF after them; a line, and the text after its LF.
pub data Lines : Type 0 where
  end : Lines
  cut : List ℕ → Lines
  line : List ℕ → Lines → Lines

-- A byte before the first line.
abbrev pub onto : ℕ → Lines → Lines
onto b end = cut (b ∷ [])
onto b (cut l) = cut (b ∷ l)
onto b (line l r) = line (b ∷ l) r

-- LF stands after every line.
abbrev pub lines : List ℕ → Lines
lines [] = end
lines (b ∷ t) = cond (eqb b line_feed) (line [] (lines t)) (onto b (lines t))

-- A byte before the first field.
abbrev pub into : ℕ → List (List ℕ) → List (List ℕ)
into b [] = (b ∷ []) ∷ []
into b (f ∷ fs) = (b ∷ f) ∷ fs

-- The fields of a line, parted by bars. There is always one.
abbrev pub fields : List ℕ → List (List ℕ)
fields [] = [] ∷ []
fields (b ∷ t) = cond (eqb b bar) ([] ∷ fields t) (into b (fields t))

-- How many blanks lead.
abbrev pub leading_blanks : List ℕ → ℕ
leading_blanks [] = zero
leading_blanks (b ∷ t) = cond (eqb b blank) (suc (leading_blanks t)) zero

-- Leading blanks dropped.
abbrev pub drop_lead : List ℕ → List ℕ
drop_lead [] = []
drop_lead (b ∷ t) = cond (eqb b blank) (drop_lead t) (b ∷ t)

-- A byte before what is left of the bytes after it: a blank before nothing is dropped.
abbrev pub before : ℕ → List ℕ → List ℕ
before b [] = cond (eqb b blank) [] (b ∷ [])
before b (x ∷ t) = b ∷ x ∷ t

-- Trailing blanks dropped.
abbrev pub drop_trail : List ℕ → List ℕ
drop_trail [] = []
drop_trail (b ∷ t) = before b (drop_trail t)

-- A field with its leading and trailing blanks dropped is the value.
abbrev pub trim : List ℕ → List ℕ
trim f = drop_trail (drop_lead f)

-- The field of a line that starts at a place: up to the next bar.
abbrev pub field_from : List ℕ → ℕ → List ℕ
field_from l a = take (up_to bar (drop a l)) (drop a l)

-- Where the value of a field lies in it: after the leading blanks, as long as the value.
pub record TrimmedIs (f : List ℕ) (start size : ℕ) : Type 0 where
  pub start_is : start ≡ leading_blanks f
  pub size_is : size ≡ length (trim f)
  pub value : take size (drop start f) ≡ trim f
  pub within : start + size ≤ length f

-- Where the value of the field from a on lies in the line, and where the field ends.
pub record FieldAt (l : List ℕ) (a start size till : ℕ) : Type 0 where
  pub start_is : start ≡ a + leading_blanks (field_from l a)
  pub size_is : size ≡ length (trim (field_from l a))
  pub till_is : till ≡ a + up_to bar (drop a l)
  pub value : take size (drop start l) ≡ trim (field_from l a)
  pub within : start + size ≤ till
  pub fits : a ≤ length l → till ≤ length l

-- What one pass over a text's first line finds: its length, whether its bytes are 0x20 to 0x7E, how many fields it has.
pub record ScannedIs (t : List ℕ) (size : ℕ) (right : Bool) (parts : ℕ) : Type 0 where
  pub size_is : size ≡ up_to line_feed t
  pub right_is : right ≡ printable (first_line t)
  pub parts_is : parts ≡ length (fields (first_line t))
