-- What every accepted observation is: a place for each element, what one observation must hold, and each value right for its element,
-- without blanks at its ends, of bytes 0x20 to 0x7E and without bars. And that an accepted report has no more rows than the limit.
use Prim.Native.Nat.{ℕ, zero, suc, ◌≤◌, ◌<◌, ◌+◌}
use mathlib.Core.Path.{◌≡◌, refl, ap, sym, ◌∙◌}
use mathlib.Core.Bool.{Bool, true, cond}
use mathlib.Core.List.{List, [], ◌∷◌}
use native.Mathlib.Omega.{arith}
use lib.Dec.{eqb, ltb}
use lib.ListN.{length, take, drop, get_or, set, replicate, length-set}
use lib.Seq.{get_or-set_other, get_or-set_same, set_out}
use borrow.Author.Tests.{eqb-true, eqb-false, ltb-true, ltb-false}
use Rattle.text.specs.Part.{same}
use Rattle.text.specs.Lines.{Lines, end, cut, line, lines, fields, trim, printable}
use Rattle.text.proofs.Bools.{bools}
use Rattle.refusal.specs.declared.Fault.{Fault}
use Rattle.refusal.specs.declared.Kind.{Kind}
use Rattle.std.specs.Prelude.{Result, Ok, Err}
use Rattle.element.specs.Table.{elements, index_of}
use Rattle.element.specs.Form.{fault_of}
use Rattle.element.specs.Observation.{Observation, is_present, observation_fault}
use Rattle.report.specs.declared.state.Need.{Need}
use Rattle.report.specs.Report.{row_limit, version_line, is_hash, State, Step, next, row, bad, member, columns_from, or_next, field_fault, fill, row_of, row_unless, data_line, opened, other, step, accepted, after_row, after, read_from, begin, read}
use Rattle.report.proofs.Long.{row_long}
use Rattle.report.proofs.Join.{bad≢row, next≢row, refused≢accepted, more_accepted, kind_row, end_opens, read_accepted}
use Rattle.element.proofs.Forms.{fault_absent}
use Rattle.layout.proofs.FieldLaws.{is_clean, Cleans, none, one, trim_twice, clean_trim, fields_clean}

-- A value as it stands in an accepted observation.
pub record RightValue (c : ℕ) (v : List ℕ) : Type 0 where
  pub fine : fault_of c v ≡ Ok tt
  pub trimmed : trim v ≡ v
  pub clean : is_clean v ≡ true

-- An observation as it is accepted.
pub record Right (o : Observation) : Type 0 where
  pub long : length o ≡ elements
  pub sound : observation_fault o ≡ Ok tt
  pub values : (c : ℕ) → RightValue c (get_or o c [])

-- Each of the observations is right.
abbrev pub AllRight : List Observation → Type 0
AllRight [] = Unit
AllRight (o ∷ os) = Right o × AllRight os

-- So are the first of them.
pub right_take : (k : ℕ) (rows : List Observation) → AllRight rows → AllRight (take k rows)
right_take zero rows h = tt
right_take (suc k) [] h = tt
right_take (suc k) (o ∷ os) h = (h.0, right_take k os h.1)

-- And the others.
pub right_drop : (k : ℕ) (rows : List Observation) → AllRight rows → AllRight (drop k rows)
right_drop zero rows h = h
right_drop (suc k) [] h = tt
right_drop (suc k) (o ∷ os) h = right_drop k os h.1

-- The row of a data line.

-- An absent value is right.
absent_right : (c : ℕ) → RightValue c []
unfolding is_clean
absent_right c = record { fine = fault_absent c; trimmed = refl; clean = refl }

-- In the row without values every element is absent.
pub blank_at : (n e : ℕ) → ◌≡◌ {A = List ℕ} (get_or (replicate n []) e []) []
blank_at zero e = refl
blank_at (suc n) zero = refl
blank_at (suc n) (suc e) = blank_at n e

-- Without a fault, the field has none and neither have those after it.
next_fault : (c : Result Unit Kind) (p : ℕ) (f : Result Unit Fault) → or_next c p f ≡ Ok tt → (c ≡ Ok tt) × (f ≡ Ok tt)
next_fault (Ok u) p f h = (refl, h)
next_fault (Err k) p f h = let z : ◌≡◌ {A = ℕ} 0 1 = cc in absurd (omega arith)

-- A value put where it is present.
abbrev pub put : Observation → ℕ → List ℕ → Observation
put o c v = cond (is_present v) (set o c v) o

-- It leaves as many places.
pub put_length_lem : (o : Observation) (c : ℕ) (v : List ℕ) → length (put o c v) ≡ length o
put_length_lem o c v = bools (is_present v) (λ q. rw q (length-set o c v)) (λ q. rw q)

-- A right value set among right ones leaves them right, and so does one put where it is present.
set_right : (o : Observation) (c : ℕ) (v : List ℕ) → RightValue c v → ((e : ℕ) → RightValue e (get_or o e []))
    → (e : ℕ) → RightValue e (get_or (set o c v) e [])
set_right o c v r h e =
    bools (eqb e c)
    (λ a. here (eqb-true e c a))
    (λ a. rw (get_or-set_other o c e v [] (eqb-false e c a)) (h e))
  where
    here : e ≡ c → RightValue e (get_or (set o c v) e [])
    here a =
        bools (ltb c (length o))
        (λ b. rw (a, get_or-set_same o c v [] (ltb-true c (length o) b)) r)
        (λ b. rw (set_out o c v (ltb-false c (length o) b)) (h e))

put_right : (o : Observation) (c : ℕ) (v : List ℕ) → RightValue c v → ((e : ℕ) → RightValue e (get_or o e []))
    → (e : ℕ) → RightValue e (get_or (put o c v) e [])
put_right o c v r h e = bools (is_present v) (λ q. rw q (set_right o c v r h e)) (λ q. rw q (h e))

-- Fields without a fault fill a row of right values.
fill_right : (cs : List ℕ) (fs : List (List ℕ)) (p : ℕ) (o : Observation) → field_fault p cs fs ≡ Ok tt → Cleans fs
    → ((e : ℕ) → RightValue e (get_or o e [])) → (e : ℕ) → RightValue e (get_or (fill cs fs o) e [])
unfolding field_fault fill
fill_right [] fs p o h k v = v
fill_right (c ∷ cs) fs p o h none v = v
fill_right (c ∷ cs) fs p o h (one {f = f} {fs = gs} k ks) v =
    let q = next_fault (fault_of c (trim f)) p (field_fault (suc p) cs gs) h in
    fill_right cs gs (suc p) (put o c (trim f)) q.1 ks
    (put_right o c (trim f) (record { fine = q.0; trimmed = trim_twice f; clean = clean_trim f k }) v)

-- Without a fault the observation is the row.
unless_sound : (f g : Result Unit Fault) (o r : Observation) → row_unless f g o ≡ row r → (f ≡ Ok tt) × (g ≡ Ok tt) × (o ≡ r)
unless_sound (Err f) g o r h = absurd (bad≢row h)
unless_sound (Ok u) (Err g) o r h = absurd (bad≢row h)
unless_sound (Ok u) (Ok v) o r h = (refl, refl, cc)

-- What a data line that is taken shows: its row is below the limit, has a field for each column, and is the observation of its fields.
pub record Taken (columns : List ℕ) (k : ℕ) (l : List ℕ) (o : Observation) : Type 0 where
  pub few : k < row_limit
  pub full : length (fields l) ≡ length columns
  pub fine : field_fault 1 columns (fields l) ≡ Ok tt
  pub sound : observation_fault o ≡ Ok tt
  pub is : row_of columns (fields l) ≡ o

-- A data line that comes to an observation is taken.
pub data_taken : (columns : List ℕ) (k : ℕ) (l : List ℕ) (o : Observation) → data_line columns k l ≡ row o → Taken columns k l o
unfolding data_line
data_taken columns k l o h =
    bools (ltb k row_limit)
    (λ a. bools (eqb (length (fields l)) (length columns))
    (λ b.
    let r : Observation = row_of columns (fields l) in
    let u = unless_sound (field_fault 1 columns (fields l)) (observation_fault r) r o (rw (a, b) at h) in
    record { few = ltb-true _ _ a; full = eqb-true _ _ b; fine = u.0; sound = ap observation_fault (sym u.2) ∙ u.1; is = u.2 })
    (λ b. absurd (bad≢row (rw (a, b) at h))))
    (λ a. absurd (bad≢row (rw a at h)))

-- Its observation is right.
right_data : (columns : List ℕ) (k : ℕ) (l : List ℕ) (o : Observation) → printable l ≡ true → Taken columns k l o → Right o
right_data columns k l o p t = record {
  long = ap length (sym t.is) ∙ row_long columns (fields l);
  sound = t.sound;
  values = λ c. rw t.is at (fill_right columns (fields l) 1 (replicate elements []) t.fine (fields_clean l p) (λ e. rw (blank_at elements e) (absent_right e)) c);
}

-- A column line comes to no observation.
pub columns_row : (fs : List (List ℕ)) (seen : List ℕ) (o : Observation) → columns_from seen fs ≡ row o → ⊥
unfolding columns_from
columns_row [] seen o h = next≢row h
columns_row (f ∷ fs) seen o h =
    bools (ltb (index_of (trim f)) elements)
    (λ e. bools (member (index_of (trim f)) seen) (λ m. bad≢row (rw (e, m) at h)) (λ m. columns_row fs _ o (rw (e, m) at h)))
    (λ e. bad≢row (rw e at h))

-- Neither does any line before the column line: what does is a data line.
other_taken : (need : Need) (columns : List ℕ) (radar : Bool) (k : ℕ) (l : List ℕ) (o : Observation) → other need columns radar k l ≡ row o
    → Taken columns k l o
other_taken Need.Version columns radar k l o h = absurd (bad≢row h)
other_taken Need.Columns columns radar k l o h = absurd (columns_row (fields l) [] o h)
other_taken Need.Row columns radar k l o h = data_taken columns k l o h
other_taken Need.Nothing columns radar k l o h = data_taken columns k l o (kind_row radar (data_line columns k l) o h).0

-- A version line comes to no observation.
pub opened_row : (need : Need) (o : Observation) → opened need ≡ row o → ⊥
opened_row Need.Version o h = next≢row h
opened_row Need.Columns o h = bad≢row h
opened_row Need.Row o h = bad≢row h
opened_row Need.Nothing o h = next≢row h

-- A line that comes to an observation is a data line of bytes 0x20 to 0x7E.
pub step_taken : (s : State) (k : ℕ) (l : List ℕ) (o : Observation) → step s k l ≡ row o → (printable l ≡ true) × Taken s.columns k l o
unfolding step
step_taken s k l o h =
    bools (printable l)
    (λ a. bools (is_hash l)
    (λ b. bools (same l version_line)
    (λ c. absurd (opened_row s.need o (rw (a, b, c) at h)))
    (λ c. absurd (bad≢row (rw (a, b, c) at h))))
    (λ b. (a, other_taken s.need s.columns s.radar k l o (rw (a, b) at h))))
    (λ a. absurd (bad≢row (rw a at h)))

-- Lines.

-- What is accepted from lines is right, and within the limit of rows.
pub lines_right : (ls : Lines) (s : State) (n k : ℕ) (L : List Observation) → read_from s n k ls ≡ accepted L
    → AllRight L × (k ≤ row_limit → k + length L ≤ row_limit)
unfolding read_from
lines_right end s n k L h = rw (end_opens s.need n L h).1 (tt, λ b. omega arith)
lines_right (cut l) s n k L h = absurd (refused≢accepted h)
lines_right (line l ls) s n k L h = by_step (step s k l) refl (λ t j M e. lines_right ls t (suc n) j M e) h
  where
    by_step : (x : Step) → step s k l ≡ x
        → ((t : State) (j : ℕ) (M : List Observation) → read_from t (suc n) j ls ≡ accepted M → AllRight M × (j ≤ row_limit → j + length M ≤ row_limit))
        → after x n s k (λ t j. read_from t (suc n) j ls) ≡ accepted L → AllRight L × (k ≤ row_limit → k + length L ≤ row_limit)
    by_step (next t) e ih h = ih t k L h
    by_step (row o) e ih h =
        let r = more_accepted o (read_from (after_row o s) (suc n) (suc k) ls) L h in
        let i = ih (after_row o s) (suc k) r.0 r.1 in
        let q = step_taken s k l o e in
        let z : suc k + length r.0 ≤ row_limit = i.1 q.1.few in
        let c : length L ≡ suc (length r.0) = ap length r.2 in
        ((rw r.2 (right_data s.columns k l o q.0 q.1, i.0)), λ b. omega arith)
    by_step (bad kind p) e ih h = absurd (refused≢accepted h)

-- Every accepted observation is right.
pub accepted_right : (t : List ℕ) (L : List Observation) → read t ≡ accepted L → AllRight L
accepted_right t L h = (lines_right (lines t) begin 1 0 L (read_accepted t L h).1).0

-- An accepted report is within the limit of rows.
pub accepted_rows : (t : List ℕ) (L : List Observation) → read t ≡ accepted L → length L ≤ row_limit
accepted_rows t L h = omega (arith, (lines_right (lines t) begin 1 0 L (read_accepted t L h).1).1 (omega arith))
