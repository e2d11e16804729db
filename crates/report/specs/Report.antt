-- What a report is, what it means and how it is refused: document 01's line rules, in its order of refusals, and since order 3 a block's kind.
use Rattle.std.specs.Prelude.{ℕ, suc, List, [], ◌∷◌, ◌++◌, Bool, false, cond, ◌||◌, length, set, replicate, eqb, ltb, Result, Ok, Err}
use Rattle.std.specs.Bool.{beq}
use Rattle.text.specs.Bytes.{bytes}
use Rattle.text.specs.Part.{same}
use Rattle.text.specs.Lines.{Lines, end, cut, line, lines, fields, trim, printable}
use Rattle.refusal.specs.Paper.{at}
use Rattle.refusal.specs.declared.Kind.{Kind}
use Rattle.refusal.specs.declared.Kind.TheVariants.{TextTooLong, NoLineEnd, WrongByte, VersionExpected, BlockUnfinished, UnknownColumn, ColumnTwice, TooManyRows, FieldCountDiffers, KindsMixed}
use Rattle.refusal.specs.declared.Fault.{Fault}
use Rattle.refusal.specs.declared.Refusal.{Refusal}
use Rattle.element.specs.Table.{elements, index_of}
use Rattle.element.specs.Form.{fault_of}
use Rattle.element.specs.Observation.{Observation, is_present, is_radar, observation_fault}
use Rattle.report.specs.declared.state.Need.{Need}

-- The text limit, in bytes.
abbrev pub text_limit : ℕ
text_limit = 65536

-- The limit of data lines in a text.
abbrev pub row_limit : ℕ
row_limit = 256

-- The line `# version=2022`, exactly those 14 bytes.
abbrev pub version_line : List ℕ
version_line = bytes "# version=2022"

-- A line whose first byte is `#` is always taken as a version line.
abbrev pub is_hash : List ℕ → Bool
is_hash [] = false
is_hash (b ∷ t) = eqb b 35

-- Where reading stands in a block: what the block still needs, the elements that its columns name, by index, and, where it has a row, whether
-- its rows are radar.
pub record State : Type 0 where
  pub need : Need
  pub columns : List ℕ
  pub radar : Bool

-- What one line comes to: the state after it; an observation; or a refusal's kind and place.
pub data Step : Type 0 where
  next : State → Step
  row : Observation → Step
  bad : Kind → ℕ → Step

-- An element is among the columns.
abbrev pub member : ℕ → List ℕ → Bool
member e [] = false
member e (c ∷ cs) = eqb c e || member e cs

-- A column line, field by field, after the columns seen: 6 unknown column name, 7 column named twice; place is the column's position.
unfoldable pub columns_from : List ℕ → List (List ℕ) → Step
columns_from seen [] = next (record { need = Need.Row; columns = seen; radar = false })
columns_from seen (f ∷ fs) =
    cond (ltb (index_of (trim f)) elements)
    (cond (member (index_of (trim f)) seen)
    (bad ColumnTwice (suc (length seen)))
    (columns_from (seen ++ (index_of (trim f) ∷ [])) fs))
    (bad UnknownColumn (suc (length seen)))

-- A fault of the field at position p, or else what comes after it.
abbrev pub or_next : Result Unit Kind → ℕ → Result Unit Fault → Result Unit Fault
or_next (Ok u) p f = f
or_next (Err k) p f = Err (at k p)

-- The first fault of a data line's fields: field by field 8, 9, 10; place is the column's position.
unfoldable pub field_fault : ℕ → List ℕ → List (List ℕ) → Result Unit Fault
field_fault p [] fs = Ok tt
field_fault p (c ∷ cs) [] = Ok tt
field_fault p (c ∷ cs) (f ∷ fs) = or_next (fault_of c (trim f)) p (field_fault (suc p) cs fs)

-- Each field's value put at its column's element; an empty value means the element is absent.
unfoldable pub fill : List ℕ → List (List ℕ) → Observation → Observation
fill [] fs o = o
fill (c ∷ cs) [] o = o
fill (c ∷ cs) (f ∷ fs) o = fill cs fs (cond (is_present (trim f)) (set o c (trim f)) o)

-- The observation of a data line. An element that no column names is absent.
abbrev pub row_of : List ℕ → List (List ℕ) → Observation
row_of columns fs = fill columns fs (replicate elements [])

-- An observation, unless its fields or what it must hold are at fault.
abbrev pub row_unless : Result Unit Fault → Result Unit Fault → Observation → Step
row_unless (Err f) g o = bad f.kind f.place
row_unless (Ok u) (Err g) o = bad g.kind g.place
row_unless (Ok u) (Ok v) o = row o

-- A data line with k before it in the text: 14, 18, then field by field 8, 9, 10, then 22, 11, 12, 13.
unfoldable pub data_line : List ℕ → ℕ → List ℕ → Step
data_line columns k l =
    cond (ltb k row_limit)
    (cond (eqb (length (fields l)) (length columns))
    (row_unless (field_fault 1 columns (fields l)) (observation_fault (row_of columns (fields l))) (row_of columns (fields l)))
    (bad FieldCountDiffers 0))
    (bad TooManyRows 0)

-- A block holds one kind: a row of another kind than the rows before it in its block is 21.
abbrev pub of_kind : Bool → Step → Step
of_kind radar (next s) = next s
of_kind radar (row o) = cond (beq radar (is_radar o)) (row o) (bad KindsMixed 0)
of_kind radar (bad kind p) = bad kind p

-- A right version line: 5 where the block before lacks its column or data line; otherwise a block begins.
abbrev pub opened : Need → Step
opened Need.Version = next (record { need = Need.Columns; columns = []; radar = false })
opened Need.Columns = bad BlockUnfinished 0
opened Need.Row = bad BlockUnfinished 0
opened Need.Nothing = next (record { need = Need.Columns; columns = []; radar = false })

-- A line that does not begin with `#`: 4 where a version line is due, else the column line or a data line; 21 last, after a first row.
abbrev pub other : Need → List ℕ → Bool → ℕ → List ℕ → Step
other Need.Version columns radar k l = bad VersionExpected 0
other Need.Columns columns radar k l = columns_from [] (fields l)
other Need.Row columns radar k l = data_line columns k l
other Need.Nothing columns radar k l = of_kind radar (data_line columns k l)

-- A line, with k data lines before it: 3, then 4 for a `#` line that isn't the version line, then by what it is.
unfoldable pub step : State → ℕ → List ℕ → Step
step s k l =
    cond (printable l)
    (cond (is_hash l)
    (cond (same l version_line) (opened s.need) (bad VersionExpected 0))
    (other s.need s.columns s.radar k l))
    (bad WrongByte 0)

-- What reading comes to: the observations in order, or the refusal.
pub data Outcome : Type 0 where
  accepted : List Observation → Outcome
  refused : Refusal → Outcome

abbrev pub refuse : Kind → ℕ → ℕ → Outcome
refuse k n p = refused (record { kind = k; line = n; place = p })

-- An observation before the others.
abbrev pub more : Observation → Outcome → Outcome
more o (accepted os) = accepted (o ∷ os)
more o (refused x) = refused x

-- The end of the text, at the line after the last: 5 where the block lacks its column or data line.
abbrev pub at_end : Need → ℕ → Outcome
at_end Need.Version n = accepted []
at_end Need.Columns n = refuse BlockUnfinished n 0
at_end Need.Row n = refuse BlockUnfinished n 0
at_end Need.Nothing n = accepted []

-- The state after a data line: its block has a row, of that kind.
abbrev pub after_row : Observation → State → State
after_row o s = record { need = Need.Nothing; columns = s.columns; radar = is_radar o }

-- After line n: the text goes on in the state that the line leaves.
abbrev pub after : Step → ℕ → State → ℕ → (State → ℕ → Outcome) → Outcome
after (next s) n old k go = go s k
after (row o) n old k go = more o (go (after_row o old) (suc k))
after (bad kind p) n old k go = refuse kind n p

-- A text's lines from line n on, with k data lines before it: 2 for a line without LF.
unfoldable pub read_from : State → ℕ → ℕ → Lines → Outcome
read_from s n k end = at_end s.need n
read_from s n k (cut l) = refuse NoLineEnd n 0
read_from s n k (line l ls) = after (step s k l) n s k (λ s' k'. read_from s' (suc n) k' ls)

-- Where a text begins: a version line is due.
abbrev pub begin : State
begin = record { need = Need.Version; columns = []; radar = false }

-- A report: 1, then line by line. The empty text is a report of no observations.
unfoldable pub read : List ℕ → Outcome
read t = cond (ltb text_limit (length t)) (refuse TextTooLong 0 0) (read_from begin 1 0 (lines t))
