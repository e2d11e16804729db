-- What was accepted before document 02's order 2 is accepted now, as the same list: the reader with another rule for the faults of values.
use Prim.Native.Nat.{ℕ, suc}
use mathlib.Core.Path.{◌≡◌, refl, ap, sym}
use mathlib.Core.Bool.{Bool, true, false, cond}
use mathlib.Core.List.{List, [], ◌∷◌}
use lib.Dec.{eqb, ltb}
use lib.ListN.{length}
use Rattle.text.specs.Lines.{Lines, end, cut, line, lines, fields, trim, printable}
use Rattle.text.specs.Part.{same}
use Rattle.text.proofs.Bools.{bools, never}
use Rattle.refusal.specs.declared.Kind.TheVariants.{TextTooLong, NoLineEnd, WrongByte, VersionExpected, TooManyRows, FieldCountDiffers}
use Rattle.std.specs.Prelude.{Result, Ok, Err}
use Rattle.refusal.specs.declared.Kind.{Kind}
use Rattle.refusal.specs.declared.Fault.{Fault}
use Rattle.element.specs.Form.{fault_of}
use Rattle.element.specs.Observation.{Observation, observation_fault}
use Rattle.element.proofs.Before.{fault_before, fault_kept}
use Rattle.report.specs.Report.{text_limit, row_limit, version_line, is_hash, State, Step, next, row, bad, columns_from, or_next, field_fault, row_of, row_unless, data_line, of_kind, opened, other, step, Outcome, accepted, refuse, more, at_end, after_row, after, read_from, begin, read}
use Rattle.report.specs.declared.state.Need.{Need}
use Rattle.report.proofs.Join.{refused≢accepted, more_accepted}

-- The reader by a rule for the fault of a value. `reads_by` shows that it is `read`, by the rule that stands.
module _ (fault : ℕ → List ℕ → Result Unit Kind) where
  unfoldable pub field_fault_by : ℕ → List ℕ → List (List ℕ) → Result Unit Fault
  field_fault_by p [] fs = Ok tt
  field_fault_by p (c ∷ cs) [] = Ok tt
  field_fault_by p (c ∷ cs) (f ∷ fs) = or_next (fault c (trim f)) p (field_fault_by (suc p) cs fs)

  unfoldable pub data_line_by : List ℕ → ℕ → List ℕ → Step
  data_line_by columns k l =
      cond (ltb k row_limit)
      (cond (eqb (length (fields l)) (length columns))
      (row_unless (field_fault_by 1 columns (fields l)) (observation_fault (row_of columns (fields l))) (row_of columns (fields l)))
      (bad FieldCountDiffers 0))
      (bad TooManyRows 0)

  abbrev pub other_by : Need → List ℕ → Bool → ℕ → List ℕ → Step
  other_by Need.Version columns radar k l = bad VersionExpected 0
  other_by Need.Columns columns radar k l = columns_from [] (fields l)
  other_by Need.Row columns radar k l = data_line_by columns k l
  other_by Need.Nothing columns radar k l = of_kind radar (data_line_by columns k l)

  unfoldable pub step_by : State → ℕ → List ℕ → Step
  step_by s k l =
      cond (printable l)
      (cond (is_hash l)
      (cond (same l version_line) (opened s.need) (bad VersionExpected 0))
      (other_by s.need s.columns s.radar k l))
      (bad WrongByte 0)

  unfoldable pub read_from_by : State → ℕ → ℕ → Lines → Outcome
  read_from_by s n k end = at_end s.need n
  read_from_by s n k (cut l) = refuse NoLineEnd n 0
  read_from_by s n k (line l ls) = after (step_by s k l) n s k (λ s' k'. read_from_by s' (suc n) k' ls)

  unfoldable pub read_by : List ℕ → Outcome
  read_by t = cond (ltb text_limit (length t)) (refuse TextTooLong 0 0) (read_from_by begin 1 0 (lines t))

-- Two readings that go on alike come to the same.
after_alike : (x : Step) (n : ℕ) (old : State) (k : ℕ) (go go' : State → ℕ → Outcome) → ((s : State) (i : ℕ) → go s i ≡ go' s i)
    → after x n old k go ≡ after x n old k go'
after_alike (next s) n old k go go' h = h s k
after_alike (row o) n old k go go' h = ap (more o) (h (after_row o old) (suc k))
after_alike (bad kind p) n old k go go' h = refl

-- By the rule that stands, it is the reader that stands.
fields_by : (p : ℕ) (cs : List ℕ) (fs : List (List ℕ)) → field_fault_by fault_of p cs fs ≡ field_fault p cs fs
unfolding field_fault_by field_fault
fields_by p [] fs = refl
fields_by p (c ∷ cs) [] = refl
fields_by p (c ∷ cs) (f ∷ fs) = ap (or_next (fault_of c (trim f)) p) (fields_by (suc p) cs fs)

data_by : (columns : List ℕ) (k : ℕ) (l : List ℕ) → data_line_by fault_of columns k l ≡ data_line columns k l
unfolding data_line_by data_line
data_by columns k l = rw (fields_by 1 columns (fields l))

other_by_lem : (need : Need) (columns : List ℕ) (radar : Bool) (k : ℕ) (l : List ℕ) → other_by fault_of need columns radar k l ≡ other need columns radar k l
other_by_lem Need.Version columns radar k l = refl
other_by_lem Need.Columns columns radar k l = refl
other_by_lem Need.Row columns radar k l = data_by columns k l
other_by_lem Need.Nothing columns radar k l = ap (of_kind radar) (data_by columns k l)

step_by_lem : (s : State) (k : ℕ) (l : List ℕ) → step_by fault_of s k l ≡ step s k l
unfolding step_by step
step_by_lem s k l = rw (other_by_lem s.need s.columns s.radar k l)

from_by : (ls : Lines) (s : State) (n k : ℕ) → read_from_by fault_of s n k ls ≡ read_from s n k ls
unfolding read_from_by read_from
from_by end s n k = refl
from_by (cut l) s n k = refl
from_by (line l ls) s n k = rw (step_by_lem s k l) (after_alike (step s k l) n s k _ _ (λ s' k'. from_by ls s' (suc n) k'))

pub reads_by : (t : List ℕ) → read_by fault_of t ≡ read t
unfolding read_by read
reads_by t = rw (from_by (lines t) begin 1 0)

-- The line was not refused.
abbrev is_good : Step → Bool
is_good (next s) = true
is_good (row o) = true
is_good (bad k p) = false

-- A row that is not refused for its kind was not refused.
kind_good : (radar : Bool) (x : Step) → is_good (of_kind radar x) ≡ true → is_good x ≡ true
kind_good radar (next s) e = refl
kind_good radar (row o) e = refl
kind_good radar (bad k p) e = e

-- What stays where it is good stays so behind a test.
then_kept : (test : Bool) (before now otherwise : Step) → (is_good before ≡ true → now ≡ before) → is_good (cond test before otherwise) ≡ true
    → cond test now otherwise ≡ cond test before otherwise
then_kept true before now otherwise h e = h e
then_kept false before now otherwise h e = refl

else_kept : (test : Bool) (first before now : Step) → (is_good before ≡ true → now ≡ before) → is_good (cond test first before) ≡ true
    → cond test first now ≡ cond test first before
else_kept true first before now h e = refl
else_kept false first before now h e = h e

row_kept : (before now held : Result Unit Fault) (o : Observation) → (before ≡ Ok tt → now ≡ Ok tt) → is_good (row_unless before held o) ≡ true
    → row_unless now held o ≡ row_unless before held o
row_kept (Ok u) now held o h e = rw (h refl)
row_kept (Err f) now held o h e = never e

or_next_sound : (x : Result Unit Kind) (p : ℕ) (f : Result Unit Fault) → or_next x p f ≡ Ok tt → (x ≡ Ok tt) × (f ≡ Ok tt)
or_next_sound (Ok u) p f e = (refl, e)
or_next_sound (Err k) p f e = cc

-- A line that leaves no refusal goes on, and so does what follows it.
after_kept : (x y : Step) (n : ℕ) (old : State) (k : ℕ) (go go' : State → ℕ → Outcome) → (is_good x ≡ true → y ≡ x)
    → ((s : State) (i : ℕ) (os : List Observation) → go s i ≡ accepted os → go' s i ≡ accepted os)
    → (os : List Observation) → after x n old k go ≡ accepted os → after y n old k go' ≡ accepted os
after_kept (next s) y n old k go go' h later os e = rw (h refl) (later s k os e)
after_kept (row o) y n old k go go' h later os e =
    let m = more_accepted o (go (after_row o old) (suc k)) os e in
    rw (h refl, later (after_row o old) (suc k) m.0 m.1) (ap accepted (sym m.2))
after_kept (bad kind p) y n old k go go' h later os e = absurd (refused≢accepted e)

-- A reader that finds no fault in a value only where none stands: what it accepts is accepted.
module _ (fault : ℕ → List ℕ → Result Unit Kind) (right : (index : ℕ) (text : List ℕ) → fault index text ≡ Ok tt → fault_of index text ≡ Ok tt) where
  fields_kept : (p : ℕ) (cs : List ℕ) (fs : List (List ℕ)) → field_fault_by fault p cs fs ≡ Ok tt → field_fault p cs fs ≡ Ok tt
  unfolding field_fault_by field_fault
  fields_kept p [] fs e = refl
  fields_kept p (c ∷ cs) [] e = refl
  fields_kept p (c ∷ cs) (f ∷ fs) e =
      let q = or_next_sound (fault c (trim f)) p (field_fault_by fault (suc p) cs fs) e in
      rw (right c (trim f) q.0) (fields_kept (suc p) cs fs q.1)

  data_kept : (columns : List ℕ) (k : ℕ) (l : List ℕ) → is_good (data_line_by fault columns k l) ≡ true
      → data_line columns k l ≡ data_line_by fault columns k l
  unfolding data_line_by data_line
  data_kept columns k l =
      then_kept (ltb k row_limit) _ _ _
      (then_kept (eqb (length (fields l)) (length columns)) _ _ _
      (row_kept (field_fault_by fault 1 columns (fields l)) (field_fault 1 columns (fields l)) (observation_fault (row_of columns (fields l)))
      (row_of columns (fields l)) (fields_kept 1 columns (fields l))))

  other_kept : (need : Need) (columns : List ℕ) (radar : Bool) (k : ℕ) (l : List ℕ) → is_good (other_by fault need columns radar k l) ≡ true
      → other need columns radar k l ≡ other_by fault need columns radar k l
  other_kept Need.Version columns radar k l e = refl
  other_kept Need.Columns columns radar k l e = refl
  other_kept Need.Row columns radar k l e = data_kept columns k l e
  other_kept Need.Nothing columns radar k l e = ap (of_kind radar) (data_kept columns k l (kind_good radar (data_line_by fault columns k l) e))

  step_kept : (s : State) (k : ℕ) (l : List ℕ) → is_good (step_by fault s k l) ≡ true → step s k l ≡ step_by fault s k l
  unfolding step_by step
  step_kept s k l =
      then_kept (printable l) _ _ _ (else_kept (is_hash l) _ _ _ (other_kept s.need s.columns s.radar k l))

  from_kept : (ls : Lines) (s : State) (n k : ℕ) (os : List Observation) → read_from_by fault s n k ls ≡ accepted os → read_from s n k ls ≡ accepted os
  unfolding read_from_by read_from
  from_kept end s n k os e = e
  from_kept (cut l) s n k os e = e
  from_kept (line l ls) s n k os e =
      after_kept (step_by fault s k l) (step s k l) n s k _ _ (step_kept s k l) (λ s' k' rest h. from_kept ls s' (suc n) k' rest h) os e

  pub accepted_by : (t : List ℕ) (os : List Observation) → read_by fault t ≡ accepted os → read t ≡ accepted os
  unfolding read_by read
  accepted_by t os e =
      bools (ltb text_limit (length t)) (λ q. rw q (rw q at e)) (λ q. rw q (from_kept (lines t) begin 1 0 os (rw q at e)))

-- The reader before the order, and that what it accepted is accepted as the same list.
abbrev pub read_before : List ℕ → Outcome
read_before t = read_by fault_before t

pub accepted_before : (t : List ℕ) (os : List Observation) → read_before t ≡ accepted os → read t ≡ accepted os
accepted_before t os = accepted_by fault_before fault_kept t os
