-- What the reader's private functions promise each other. A reviewer of the report's rules can skip this file.
use Rattle.std.specs.Prelude.{ℕ, ◌+◌, ◌-◌, ◌^◌, ◌≤◌, ◌<◌, ◌≡◌, List, [], Bool, false, cond, ◌&&◌, eqb, leb, ltb, length, take, drop, get_or, set, Option, unwrap_or, Some, None, Result, Ok, Err}
use Rattle.std.specs.Bool.{beq}
use Rattle.std.specs.Int.Bits.{bit_or}
use Rattle.text.specs.Bytes.{bytes}
use Rattle.text.specs.Part.{same}
use Rattle.text.specs.Lines.{up_to, fields, ScannedIs}
use Rattle.text.specs.declared.lines.Span.{Span}
use Rattle.refusal.specs.Paper.{at}
use Rattle.refusal.specs.declared.Kind.TheVariants.{NoLineEnd, BlockUnfinished, KindsMixed}
use Rattle.refusal.specs.declared.Refusal.{Refusal}
use Rattle.refusal.specs.declared.Fault.{Fault}
use Rattle.element.specs.Set.{has}
use Rattle.element.specs.Table.{elements}
use Rattle.element.specs.Observation.{Observation, is_present, is_radar, set_of, is_wgs84, is_earth, is_radar_set, set_fault}
use Rattle.report.specs.Report.{State, Step, next, row, bad, columns_from, field_fault, row_of, data_line, of_kind, other, step, read, row_limit}
use Rattle.report.specs.Starts.{starts_of, starts_in}
use Rattle.report.specs.Answers.{shown_of, showing_paper, showing_answer}
use Rattle.report.specs.Index.{Shows, Noted}
use Rattle.report.specs.declared.index.Row.{Row}
use Rattle.report.specs.declared.line.Line.{Line}
use Rattle.report.specs.declared.row.Marks.{Marks}
use Rattle.report.specs.declared.state.Need.{Need}
use Rattle.report.specs.declared.state.State.{State as CodeState}
use Rattle.report.specs.declared.state.Taken.{Taken}

-- The bytes of a text between two places.
abbrev pub between : List ℕ → ℕ → ℕ → List ℕ
between t from till = take (till - from) (drop from t)

-- A line of a text, between two places, with so many fields.
pub record LineIn (t : List ℕ) (from till parts : ℕ) : Type 0 where
  pub order : from ≤ till
  pub in_text : till < length t
  pub short : till < 65536
  pub parts_are : parts ≡ length (fields (between t from till))

-- The reader's state as the definition has it.
abbrev pub state_of : CodeState → List ℕ → State
state_of s columns = record { need = s.need; columns = columns; radar = s.radar }

-- Columns are elements.
abbrev pub AllElements : List ℕ → Type 0
AllElements columns = (k : ℕ) → k < length columns → get_or columns k 0 < elements

-- ---- the column line

-- The columns are named: the state after the line.
abbrev pub NamedCase : List ℕ → Result (List ℕ) Fault → Type 0
NamedCase l (Ok columns) = columns_from [] (fields l) ≡ next (record { need = Need.Row; columns = columns; radar = false })
NamedCase l (Err f) = columns_from [] (fields l) ≡ bad f.kind f.place

pub record NamedIs (l : List ℕ) (r : Result (List ℕ) Fault) : Type 0 where
  pub case : NamedCase l r

-- ---- the fields of a data line

-- What an observation's marks are.
abbrev pub marks_of : Observation → Marks
marks_of o = record { present = set_of o; wgs84 = is_wgs84 o; earth = is_earth o }

-- The marks with one value more.
unfoldable pub mark_on : Marks → ℕ → List ℕ → Marks
mark_on m e v =
    cond (is_present v)
    (record {
      present = bit_or m.present (2 ^ e);
      wgs84 = cond (eqb e 8) (same v (bytes "WGS84")) m.wgs84;
      earth = cond (eqb e 9) (same v (bytes "399")) m.earth;
    })
    m

-- The rows before in the block are radar or not; none where it has no row.
abbrev pub rows_of : Need → Bool → Option Bool
rows_of Need.Version radar = None
rows_of Need.Columns radar = None
rows_of Need.Row radar = None
rows_of Need.Nothing radar = Some radar

-- What the first data line of a block comes to, or one after rows that are radar or not.
abbrev pub after_rows : Option Bool → Step → Step
after_rows None taken = taken
after_rows (Some radar) taken = of_kind radar taken

-- Whether an observation there is radar, unless it is of another kind or has a fault.
abbrev pub kind_by : Result Unit Fault → Option Bool → Bool → Result Bool Fault
kind_by (Ok u) before radar = cond (beq (unwrap_or before radar) radar) (Ok radar) (Err (at KindsMixed 0))
kind_by (Err f) before radar = Err f

-- What marks come to: an observation that is radar or not, unless it does not hold what it must or is of another kind.
unfoldable pub held_by : Marks → Option Bool → Result Bool Fault
held_by m before = kind_by (set_fault m.present m.wgs84 m.earth) before (is_radar_set m.present)

pub record FieldsGood (t columns : List ℕ) (noted : Row) (from till : ℕ) (m : Marks) : Type 0 where
  pub sound : field_fault 1 columns (fields (between t from till)) ≡ Ok tt
  pub marks : m ≡ marks_of (row_of columns (fields (between t from till)))
  pub shows : Shows t noted.starts noted.lengths (row_of columns (fields (between t from till))) (starts_of columns (fields (between t from till)) from)

abbrev pub FieldsCase : List ℕ → List ℕ → Row → ℕ → ℕ → Result Marks Fault → Type 0
FieldsCase t columns noted from till (Ok m) = FieldsGood t columns noted from till m
FieldsCase t columns noted from till (Err f) = field_fault 1 columns (fields (between t from till)) ≡ Err f

pub record FieldsAre (t columns : List ℕ) (noted : Row) (from till : ℕ) (r : Result Marks Fault) : Type 0 where
  pub case : FieldsCase t columns noted from till r

-- A row with one value more, which is noted where it has any byte.
abbrev pub noted_in : Row → ℕ → ℕ → ℕ → Row
noted_in x element start size =
    cond (eqb size 0) x (record { present = x.present; starts = set x.starts element start; lengths = set x.lengths element size })

-- ---- a data line

-- The data line is an observation, noted in the row.
pub record RowGood (t columns : List ℕ) (noted : Row) (from till k : ℕ) (before : Option Bool) (kind : Bool) : Type 0 where
  pub got : Observation
  pub is : after_rows before (data_line columns k (between t from till)) ≡ row got
  pub kind_is : kind ≡ is_radar got
  pub few : k < row_limit
  pub notes : Noted t noted got (starts_of columns (fields (between t from till)) from)

abbrev pub RowCase : List ℕ → List ℕ → Row → ℕ → ℕ → ℕ → Option Bool → Result Bool Fault → Type 0
RowCase t columns noted from till k before (Ok kind) = RowGood t columns noted from till k before kind
RowCase t columns noted from till k before (Err f) =
    after_rows before (data_line columns k (between t from till)) ≡ bad f.kind f.place

pub record RowIs (t columns : List ℕ) (noted : Row) (from till k : ℕ) (before : Option Bool) (r : Result Bool Fault) : Type 0 where
  pub case : RowCase t columns noted from till k before r

-- ---- a line

-- The line between two places, in the reader's state.
abbrev pub step_at : List ℕ → ℕ → ℕ → CodeState → List ℕ → ℕ → Step
step_at t from till s columns k = step (state_of s columns) k (between t from till)

-- The same of a line that does not begin with `#`.
abbrev pub other_at : List ℕ → ℕ → ℕ → CodeState → List ℕ → ℕ → Step
other_at t from till s columns k = other s.need columns s.radar k (between t from till)

-- A right version line.
abbrev pub opened_to : Need → Result CodeState Fault
opened_to Need.Version = Ok (record { need = Need.Columns; radar = false })
opened_to Need.Columns = Err (at BlockUnfinished 0)
opened_to Need.Row = Err (at BlockUnfinished 0)
opened_to Need.Nothing = Ok (record { need = Need.Columns; radar = false })

-- The line is a version line or a column line: the state after it; the row is as it was.
pub record NextIs (columns : List ℕ) (x y : Row) (taken : Step) (s : CodeState) : Type 0 where
  pub is : taken ≡ next (state_of s columns)
  pub same : y ≡ x

-- The line is an observation, noted in the row; the columns are as they were.
pub record RowTaken (t columns columns' : List ℕ) (noted : Row) (from till k : ℕ) (taken : Step) (radar : Bool) : Type 0 where
  pub got : Observation
  pub is : taken ≡ row got
  pub kind_is : radar ≡ is_radar got
  pub few : k < row_limit
  pub notes : Noted t noted got (starts_of columns (fields (between t from till)) from)
  pub same : columns' ≡ columns

abbrev pub LineCase : List ℕ → List ℕ → List ℕ → Row → Row → ℕ → ℕ → ℕ → Step → Result Taken Fault → Type 0
LineCase t columns columns' x y from till k taken (Ok (Taken.Next s)) = NextIs columns' x y taken s
LineCase t columns columns' x y from till k taken (Ok (Taken.Noted radar)) = RowTaken t columns columns' y from till k taken radar
LineCase t columns columns' x y from till k taken (Err f) = taken ≡ bad f.kind f.place

pub record TookLine (t columns columns' : List ℕ) (x y : Row) (from till k : ℕ) (taken : Step) (r : Result Taken Fault) : Type 0 where
  pub case : LineCase t columns columns' x y from till k taken r

-- ---- the whole text

-- The next line of a text from a place on, and the place after it.
pub record NextLine (t : List ℕ) (at number : ℕ) (line : Line) (at' number' : ℕ) : Type 0 where
  pub from_is : line.from ≡ at
  pub order : at ≤ line.till
  pub ended : line.till < length t
  pub scanned : ScannedIs (take (length t - at) (drop at t)) (line.till - at) line.printable line.fields
  pub number_is : line.number ≡ number
  pub at_is : at' ≡ line.till + 1
  pub number_on : number' ≡ number + 1

abbrev pub NextCase : List ℕ → ℕ → ℕ → ℕ → ℕ → Result (Option Line) Refusal → Type 0
NextCase t at number at' number' (Ok None) = (length t ≤ at) × (at' ≡ at) × (number' ≡ number)
NextCase t at number at' number' (Ok (Some line)) = NextLine t at number line at' number'
NextCase t at number at' number' (Err r) =
    (at < length t) × (up_to 10 (drop at t) ≡ length (drop at t)) × (r ≡ record { kind = NoLineEnd; line = number; place = 0 })

pub record NextIn (t : List ℕ) (at number at' number' : ℕ) (r : Result (Option Line) Refusal) : Type 0 where
  pub case : NextCase t at number at' number' r

-- The row of the index for observation k: those from the first on have rows 0, 1, .., as many as there is room for; all others the last.
unfoldable pub slot_of : ℕ → ℕ → ℕ → ℕ
slot_of first room k = cond (leb first k && ltb (k - first) room) (k - first) room

-- The answer at the end of the text.
abbrev pub checked_at : Need → ℕ → ℕ → Result ℕ Refusal
checked_at Need.Version n k = Ok k
checked_at Need.Columns n k = Err (record { kind = BlockUnfinished; line = n; place = 0 })
checked_at Need.Row n k = Err (record { kind = BlockUnfinished; line = n; place = 0 })
checked_at Need.Nothing n k = Ok k

-- ---- one value

-- What a row shows of an element.
unfoldable pub shown_in : Row → ℕ → Option Span
shown_in noted e =
    cond (has noted.present e) (Some (record { start = get_or noted.starts e 0; length = get_or noted.lengths e 0 })) None

-- Where a value lies, and that it lies there.
pub record LocatedIs (t : List ℕ) (n e : ℕ) (r : Result (Option Span) Refusal) : Type 0 where
  pub is : showing_paper r ≡ showing_answer (read t) (starts_in t) n e
  pub lies : (span : Span) → r ≡ Ok (Some span) → (span.start + span.length ≤ length t) × (take span.length (drop span.start t) ≡ shown_of (read t) n e)
