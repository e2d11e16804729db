-- Every observation that a text reads as has a value for each element, empty where the element is absent.
use Prim.Native.Nat.{ℕ, suc}
use mathlib.Core.Path.{◌≡◌, refl, ◌∙◌}
use mathlib.Core.Bool.{Bool, beq}
use mathlib.Core.List.{List, [], ◌∷◌}
use lib.Dec.{eqb, ltb}
use lib.ListN.{length, set, replicate, length-set, length-replicate}
use Rattle.text.specs.Part.{same}
use Rattle.text.specs.Lines.{Lines, end, cut, line, lines, fields, trim, printable}
use Rattle.text.proofs.Bools.{bools}
use Rattle.std.specs.Prelude.{Result, Ok, Err}
use Rattle.refusal.specs.declared.Fault.{Fault}
use Rattle.element.specs.Table.{elements, index_of}
use Rattle.element.specs.Observation.{Observation, is_present, is_radar, observation_fault}
use Rattle.report.specs.declared.state.Need.{Need}
use Rattle.report.specs.Report.{text_limit, row_limit, version_line, is_hash, State, Step, next, row, bad, member, columns_from, field_fault, fill, row_of, row_unless, data_line, of_kind, opened, other, step, Outcome, accepted, refused, more, at_end, after_row, after, read_from, begin, read}

-- Each of the observations has a value for each element.
abbrev pub AllLong : List Observation → Type 0
AllLong [] = Unit
AllLong (o ∷ os) = (length o ≡ elements) × AllLong os

-- So has the one that a line comes to, if it comes to one.
abbrev LongStep : Step → Type 0
LongStep (next s) = Unit
LongStep (row o) = length o ≡ elements
LongStep (bad k p) = Unit

-- And those that reading comes to.
abbrev pub Long : Outcome → Type 0
Long (accepted os) = AllLong os
Long (refused x) = Unit

-- A row that is filled keeps its places.
pub fill_length : (cs : List ℕ) (fs : List (List ℕ)) (o : Observation) → length (fill cs fs o) ≡ length o
unfolding fill
fill_length [] fs o = refl
fill_length (c ∷ cs) [] o = refl
fill_length (c ∷ cs) (f ∷ fs) o =
    bools (is_present (trim f))
    (λ q. rw q (fill_length cs fs (set o c (trim f)) ∙ length-set o c (trim f)))
    (λ q. rw q (fill_length cs fs o))

-- The observation of a data line has a value for each element.
pub row_long : (columns : List ℕ) (fs : List (List ℕ)) → length (row_of columns fs) ≡ elements
row_long columns fs = fill_length columns fs (replicate elements []) ∙ length-replicate {A = List ℕ} elements []

unless_long : (f g : Result Unit Fault) (o : Observation) → length o ≡ elements → LongStep (row_unless f g o)
unless_long (Err f) g o h = tt
unless_long (Ok u) (Err g) o h = tt
unless_long (Ok u) (Ok v) o h = h

data_long : (columns : List ℕ) (k : ℕ) (l : List ℕ) → LongStep (data_line columns k l)
unfolding data_line
data_long columns k l =
    bools (ltb k row_limit)
    (λ a. bools (eqb (length (fields l)) (length columns))
    (λ b. rw (a, b) (unless_long (field_fault 1 columns (fields l)) (observation_fault (row_of columns (fields l))) (row_of columns (fields l)) (row_long columns (fields l))))
    (λ b. rw (a, b) tt))
    (λ a. rw a tt)

columns_long : (fs : List (List ℕ)) (seen : List ℕ) → LongStep (columns_from seen fs)
unfolding columns_from
columns_long [] seen = tt
columns_long (f ∷ fs) seen =
    bools (ltb (index_of (trim f)) elements)
    (λ e. bools (member (index_of (trim f)) seen) (λ m. rw (e, m) tt) (λ m. rw (e, m) (columns_long fs _)))
    (λ e. rw e tt)

opened_long : (need : Need) → LongStep (opened need)
opened_long Need.Version = tt
opened_long Need.Columns = tt
opened_long Need.Row = tt
opened_long Need.Nothing = tt

kind_long : (radar : Bool) (x : Step) → LongStep x → LongStep (of_kind radar x)
kind_long radar (next s) h = h
kind_long radar (row o) h = bools (beq radar (is_radar o)) (λ a. rw a h) (λ a. rw a tt)
kind_long radar (bad kind p) h = h

other_long : (need : Need) (columns : List ℕ) (radar : Bool) (k : ℕ) (l : List ℕ) → LongStep (other need columns radar k l)
other_long Need.Version columns radar k l = tt
other_long Need.Columns columns radar k l = columns_long (fields l) []
other_long Need.Row columns radar k l = data_long columns k l
other_long Need.Nothing columns radar k l = kind_long radar (data_line columns k l) (data_long columns k l)

step_long : (s : State) (k : ℕ) (l : List ℕ) → LongStep (step s k l)
unfolding step
step_long s k l =
    bools (printable l)
    (λ a. bools (is_hash l)
    (λ b. bools (same l version_line) (λ c. rw (a, b, c) (opened_long s.need)) (λ c. rw (a, b, c) tt))
    (λ b. rw (a, b) (other_long s.need s.columns s.radar k l)))
    (λ a. rw a tt)

more_long : (o : Observation) (x : Outcome) → length o ≡ elements → Long x → Long (more o x)
more_long o (accepted os) h l = (h, l)
more_long o (refused x) h l = tt

end_long : (need : Need) (n : ℕ) → Long (at_end need n)
end_long Need.Version n = tt
end_long Need.Columns n = tt
end_long Need.Row n = tt
end_long Need.Nothing n = tt

after_long : (x : Step) (n : ℕ) (s : State) (k : ℕ) (go : State → ℕ → Outcome) → LongStep x → ((t : State) (j : ℕ) → Long (go t j)) → Long (after x n s k go)
after_long (next t) n s k go h l = l t k
after_long (row o) n s k go h l = more_long o (go (after_row o s) (suc k)) h (l (after_row o s) (suc k))
after_long (bad kind p) n s k go h l = tt

lines_long : (ls : Lines) (s : State) (n k : ℕ) → Long (read_from s n k ls)
unfolding read_from
lines_long end s n k = end_long s.need n
lines_long (cut l) s n k = tt
lines_long (line l ls) s n k = after_long (step s k l) n s k (λ t j. read_from t (suc n) j ls) (step_long s k l) (λ t j. lines_long ls t (suc n) j)

pub read_long : (t : List ℕ) → Long (read t)
unfolding read
read_long t = bools (ltb text_limit (length t)) (λ e. rw e tt) (λ e. rw e (lines_long (lines t) begin 1 0))
