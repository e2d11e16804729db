-- Two reports join: where the text of one stands after the other's, the observations are those of the first and then those of the
-- second, as long as the limits of bytes and of rows hold.
use Prim.Native.Nat.{ℕ, suc, ◌≤◌, ◌<◌, ◌+◌}
use mathlib.Core.Path.{◌≡◌, refl, ap, sym, ◌∙◌}
use mathlib.Core.List.{List, [], ◌∷◌, ◌++◌}
use mathlib.Core.Bool.{Bool, true, false, true≢false, beq}
use lib.ListN.{length}
use lib.Dec.{eqb, ltb}
use borrow.Author.Tests.{lt-ltb, le-ltb, ltb-false}
use native.Mathlib.Omega.{arith}
use Rattle.text.specs.Part.{same}
use Rattle.text.specs.Lines.{Lines, end, cut, line, lines, onto, fields, printable}
use Rattle.text.proofs.Bools.{bools}
use Rattle.refusal.specs.declared.Kind.{Kind}
use Rattle.std.specs.Prelude.{Result, Ok, Err}
use Rattle.refusal.specs.declared.Fault.{Fault}
use Rattle.refusal.specs.declared.Refusal.{Refusal}
use Rattle.element.specs.Observation.{Observation, is_radar, observation_fault}
use Rattle.report.specs.declared.state.Need.{Need}
use Rattle.report.specs.Report.{text_limit, row_limit, version_line, is_hash, State, Step, next, row, bad, field_fault, row_of, row_unless, data_line, of_kind, opened, other, step, Outcome, accepted, refused, more, at_end, after_row, after, read_from, begin, read}

-- A refusal is no state.
pub bad≢next : {k : Kind} {p : ℕ} {s : State} → bad k p ≡ next s → ⊥
bad≢next q = let z : ◌≡◌ {A = ℕ} 0 1 = cc in omega arith

-- Nor is it an observation.
pub bad≢row : {k : Kind} {p : ℕ} {o : Observation} → bad k p ≡ row o → ⊥
bad≢row q = let z : ◌≡◌ {A = ℕ} 0 1 = cc in omega arith

-- A state is no observation.
pub next≢row : {s : State} {o : Observation} → next s ≡ row o → ⊥
next≢row q = let z : ◌≡◌ {A = ℕ} 0 1 = cc in omega arith

-- What is refused is not accepted.
pub refused≢accepted : {x : Refusal} {L : List Observation} → refused x ≡ accepted L → ⊥
refused≢accepted q = let z : ◌≡◌ {A = ℕ} 0 1 = cc in omega arith

-- An accepted observation before others: the others are accepted.
pub more_accepted : (o : Observation) (x : Outcome) (L : List Observation) → more o x ≡ accepted L
    → (rest : List Observation) × (x ≡ accepted rest) × (L ≡ o ∷ rest)
more_accepted o (accepted rest) L h = (rest, refl, cc)
more_accepted o (refused x) L h = absurd (refused≢accepted h)

-- A text that ends with an LF, and then other lines.
unfoldable pub followed : Lines → Lines → Lines
followed end rest = rest
followed (cut l) rest = cut l
followed (line l ls) rest = line l (followed ls rest)

-- Every line has its LF.
abbrev pub is_whole : Lines → Bool
is_whole end = true
is_whole (cut l) = false
is_whole (line l ls) = is_whole ls

-- The lines of two texts are those of the first and then those of the second.
pub lines_append : (a b : List ℕ) → is_whole (lines a) ≡ true → lines (a ++ b) ≡ followed (lines a) (lines b)
unfolding followed
lines_append [] b h = refl
lines_append (x ∷ a) b h =
    bools (eqb x 10)
    (λ e. rw (e, lines_append a b (rw e at h)))
    (λ e. rw e (onto_followed (lines a) (λ w. lines_append a b w) (rw e at h)))
  where
    onto_followed : (ls : Lines) → (is_whole ls ≡ true → lines (a ++ b) ≡ followed ls (lines b)) → is_whole (onto x ls) ≡ true
        → onto x (lines (a ++ b)) ≡ followed (onto x ls) (lines b)
    onto_followed end ih w = absurd (true≢false (sym w))
    onto_followed (cut l) ih w = absurd (true≢false (sym w))
    onto_followed (line l r) ih w = rw (ih w)

-- A line's step does not turn on how many data lines stand before it, while they are below the limit.

-- A data line comes to no state.
pub data_next : (columns : List ℕ) (k : ℕ) (l : List ℕ) (s : State) → data_line columns k l ≡ next s → ⊥
unfolding data_line
data_next columns k l s h =
    bools (ltb k row_limit)
    (λ a. bools (eqb (length (fields l)) (length columns))
    (λ b. unless (field_fault 1 columns (fields l)) (observation_fault (row_of columns (fields l))) (row_of columns (fields l)) (rw (a, b) at h))
    (λ b. bad≢next (rw (a, b) at h)))
    (λ a. bad≢next (rw a at h))
  where
    unless : (f g : Result Unit Fault) (o : Observation) → row_unless f g o ≡ next s → ⊥
    unless (Err f) g o h = bad≢next h
    unless (Ok u) (Err g) o h = bad≢next h
    unless (Ok u) (Ok v) o h = next≢row (sym h)

data_row : (columns : List ℕ) (k j : ℕ) (l : List ℕ) (o : Observation) → data_line columns k l ≡ row o → j < row_limit → data_line columns j l ≡ row o
unfolding data_line
data_row columns k j l o h b =
    bools (ltb k row_limit) (λ a. rw (lt-ltb j row_limit b) (rw a at h)) (λ a. absurd (bad≢row (rw a at h)))

-- A row that is taken after rows of its block is of their kind.
pub kind_row : (radar : Bool) (x : Step) (o : Observation) → of_kind radar x ≡ row o → (x ≡ row o) × (beq radar (is_radar o) ≡ true)
kind_row radar (next s) o h = absurd (next≢row h)
kind_row radar (row p) o h =
    bools (beq radar (is_radar p))
    (λ a.
    let e : row p ≡ row o = rw a at h in
    let q : p ≡ o = cc in
    (e, ap (λ (x : Observation). beq radar (is_radar x)) (sym q) ∙ a))
    (λ a. absurd (bad≢row (rw a at h)))
kind_row radar (bad kind p) o h = absurd (bad≢row h)

-- And a row of their kind is taken.
pub row_kind : (radar : Bool) (x : Step) (o : Observation) → x ≡ row o → beq radar (is_radar o) ≡ true → of_kind radar x ≡ row o
row_kind radar x o e a = rw (e, a)

-- A data line comes to no state after rows of its block either.
pub kind_next : (radar : Bool) (columns : List ℕ) (k : ℕ) (l : List ℕ) (s : State) → of_kind radar (data_line columns k l) ≡ next s → ⊥
kind_next radar columns k l s h = go (data_line columns k l) refl h
  where
    go : (x : Step) → data_line columns k l ≡ x → of_kind radar x ≡ next s → ⊥
    go (next t) e h = data_next columns k l t e
    go (row o) e h = bools (beq radar (is_radar o)) (λ a. next≢row (sym (rw a at h))) (λ a. bad≢next (rw a at h))
    go (bad kind p) e h = bad≢next h

other_next : (need : Need) (columns : List ℕ) (radar : Bool) (k j : ℕ) (l : List ℕ) (s : State) → other need columns radar k l ≡ next s
    → other need columns radar j l ≡ next s
other_next Need.Version columns radar k j l s h = h
other_next Need.Columns columns radar k j l s h = h
other_next Need.Row columns radar k j l s h = absurd (data_next columns k l s h)
other_next Need.Nothing columns radar k j l s h = absurd (kind_next radar columns k l s h)

other_row : (need : Need) (columns : List ℕ) (radar : Bool) (k j : ℕ) (l : List ℕ) (o : Observation) → other need columns radar k l ≡ row o
    → j < row_limit → other need columns radar j l ≡ row o
other_row Need.Version columns radar k j l o h b = h
other_row Need.Columns columns radar k j l o h b = h
other_row Need.Row columns radar k j l o h b = data_row columns k j l o h b
other_row Need.Nothing columns radar k j l o h b =
    let r = kind_row radar (data_line columns k l) o h in row_kind radar (data_line columns j l) o (data_row columns k j l o r.0 b) r.1

step_next : (s : State) (k j : ℕ) (l : List ℕ) (t : State) → step s k l ≡ next t → step s j l ≡ next t
unfolding step
step_next s k j l t h =
    bools (printable l)
    (λ a. bools (is_hash l) (λ b. rw (a, b) (rw (a, b) at h)) (λ b. rw (a, b) (other_next s.need s.columns s.radar k j l t (rw (a, b) at h))))
    (λ a. absurd (bad≢next (rw a at h)))

step_row : (s : State) (k j : ℕ) (l : List ℕ) (o : Observation) → step s k l ≡ row o → j < row_limit → step s j l ≡ row o
unfolding step
step_row s k j l o h r =
    bools (printable l)
    (λ a. bools (is_hash l) (λ b. rw (a, b) (rw (a, b) at h)) (λ b. rw (a, b) (other_row s.need s.columns s.radar k j l o (rw (a, b) at h) r)))
    (λ a. absurd (bad≢row (rw a at h)))

-- What is accepted from one line number and one number of data lines on is accepted from others, while the rows are within the limit.
pub read_moved : (ls : Lines) (s : State) (n k m j : ℕ) (L : List Observation) → read_from s n k ls ≡ accepted L → j + length L ≤ row_limit
    → read_from s m j ls ≡ accepted L
unfolding read_from
read_moved end s n k m j L h b = at_end_lem s.need h
  where
    at_end_lem : (need : Need) → at_end need n ≡ accepted L → at_end need m ≡ accepted L
    at_end_lem Need.Version h = h
    at_end_lem Need.Columns h = absurd (refused≢accepted h)
    at_end_lem Need.Row h = absurd (refused≢accepted h)
    at_end_lem Need.Nothing h = h
read_moved (cut l) s n k m j L h b = absurd (refused≢accepted h)
read_moved (line l ls) s n k m j L h b = by_step (step s k l) refl (λ t k' j' M g c. read_moved ls t (suc n) k' (suc m) j' M g c) h
  where
    by_step : (x : Step) → step s k l ≡ x
        → ((t : State) (k' j' : ℕ) (M : List Observation) → read_from t (suc n) k' ls ≡ accepted M → j' + length M ≤ row_limit → read_from t (suc m) j' ls ≡ accepted M)
        → after x n s k (λ t k'. read_from t (suc n) k' ls) ≡ accepted L
        → after (step s j l) m s j (λ t k'. read_from t (suc m) k' ls) ≡ accepted L
    by_step (next t) e ih h = rw (step_next s k j l t e) (ih t k j L h b)
    by_step (row o) e ih h =
        let r = more_accepted o (read_from (after_row o s) (suc n) (suc k) ls) L h in
        let c : j + length (o ∷ r.0) ≤ row_limit = rw r.2 at b in
        rw (step_row s k j l o e (omega arith), ih (after_row o s) (suc k) (suc j) r.0 r.1 (omega arith)) (ap accepted (sym r.2))
    by_step (bad kind p) e ih h = absurd (refused≢accepted h)

-- Where a block may begin, a text that is accepted from its beginning is accepted.
pub begin_anywhere : (ls : Lines) (s : State) (n k : ℕ) (L : List Observation) → opened s.need ≡ opened Need.Version
    → read_from begin 1 0 ls ≡ accepted L → k + length L ≤ row_limit → read_from s n k ls ≡ accepted L
unfolding read_from step
begin_anywhere end s n k L o h b = at_end_lem s.need o
  where
    at_end_lem : (need : Need) → opened need ≡ opened Need.Version → at_end need n ≡ accepted L
    at_end_lem Need.Version o = h
    at_end_lem Need.Columns o = absurd (bad≢next o)
    at_end_lem Need.Row o = absurd (bad≢next o)
    at_end_lem Need.Nothing o = h
begin_anywhere (cut l) s n k L o h b = absurd (refused≢accepted h)
begin_anywhere (line l ls) s n k L o h b =
    bools (printable l)
    (λ p. bools (is_hash l)
    (λ q. bools (same l version_line)
    (λ v. rw (p, q, v, o) (read_moved ls (record { need = Need.Columns; columns = []; radar = false }) 2 0 (suc n) k L (rw (p, q, v) at h) b))
    (λ v. absurd (refused≢accepted (rw (p, q, v) at h))))
    (λ q. absurd (refused≢accepted (rw (p, q) at h))))
    (λ p. absurd (refused≢accepted (rw p at h)))

-- At the end of an accepted text a block may begin, and there is no observation left.
pub end_opens : (need : Need) (n : ℕ) (L : List Observation) → at_end need n ≡ accepted L → (opened need ≡ opened Need.Version) × (L ≡ [])
end_opens Need.Version n L h = (refl, cc)
end_opens Need.Columns n L h = absurd (refused≢accepted h)
end_opens Need.Row n L h = absurd (refused≢accepted h)
end_opens Need.Nothing n L h = (refl, cc)

-- Lines that are accepted, and then a text that is.
join_lines : (ls : Lines) (s : State) (n k : ℕ) (A B : List Observation) (rest : Lines) → read_from s n k ls ≡ accepted A
    → read_from begin 1 0 rest ≡ accepted B → k + length (A ++ B) ≤ row_limit → read_from s n k (followed ls rest) ≡ accepted (A ++ B)
unfolding read_from followed
join_lines end s n k A B rest h g b =
    let r = end_opens s.need n A h in
    let e : A ++ B ≡ B = ap (λ (x : List Observation). x ++ B) r.1 in
    rw e (begin_anywhere rest s n k B r.0 g (rw e at b))
join_lines (cut l) s n k A B rest h g b = absurd (refused≢accepted h)
join_lines (line l ls) s n k A B rest h g b =
    by_step (step s k l) (λ t k' M e c. join_lines ls t (suc n) k' M B rest e g c) h
  where
    by_step : (x : Step)
        → ((t : State) (k' : ℕ) (M : List Observation) → read_from t (suc n) k' ls ≡ accepted M → k' + length (M ++ B) ≤ row_limit
        → read_from t (suc n) k' (followed ls rest) ≡ accepted (M ++ B))
        → after x n s k (λ t k'. read_from t (suc n) k' ls) ≡ accepted A
        → after x n s k (λ t k'. read_from t (suc n) k' (followed ls rest)) ≡ accepted (A ++ B)
    by_step (next t) ih h = ih t k A h b
    by_step (row o) ih h =
        let r = more_accepted o (read_from (after_row o s) (suc n) (suc k) ls) A h in
        let e : A ++ B ≡ o ∷ (r.0 ++ B) = ap (λ (x : List Observation). x ++ B) r.2 in
        let c : k + length (o ∷ (r.0 ++ B)) ≤ row_limit = rw e at b in
        rw (ih (after_row o s) (suc k) r.0 r.1 (omega arith)) (ap accepted (sym e))
    by_step (bad kind p) ih h = absurd (refused≢accepted h)

-- Lines that are accepted each have their LF.
pub accepted_whole : (ls : Lines) (s : State) (n k : ℕ) (A : List Observation) → read_from s n k ls ≡ accepted A → is_whole ls ≡ true
unfolding read_from
accepted_whole end s n k A h = refl
accepted_whole (cut l) s n k A h = absurd (refused≢accepted h)
accepted_whole (line l ls) s n k A h = by_step (step s k l) (λ t k' M e. accepted_whole ls t (suc n) k' M e) h
  where
    by_step : (x : Step) → ((t : State) (k' : ℕ) (M : List Observation) → read_from t (suc n) k' ls ≡ accepted M → is_whole ls ≡ true)
        → after x n s k (λ t k'. read_from t (suc n) k' ls) ≡ accepted A → is_whole ls ≡ true
    by_step (next t) ih h = ih t k A h
    by_step (row o) ih h = let r = more_accepted o (read_from (after_row o s) (suc n) (suc k) ls) A h in ih (after_row o s) (suc k) r.0 r.1
    by_step (bad kind p) ih h = absurd (refused≢accepted h)

-- An accepted text is within the limit, and its lines are accepted.
pub read_accepted : (t : List ℕ) (L : List Observation) → read t ≡ accepted L → (length t ≤ text_limit) × (read_from begin 1 0 (lines t) ≡ accepted L)
unfolding read
read_accepted t L h =
    bools (ltb text_limit (length t))
    (λ a. absurd (refused≢accepted (rw a at h)))
    (λ a. (ltb-false _ _ a, rw a at h))

-- A text within the limit whose lines are accepted is accepted.
pub read_within : (t : List ℕ) (L : List Observation) → length t ≤ text_limit → read_from begin 1 0 (lines t) ≡ accepted L → read t ≡ accepted L
unfolding read
read_within t L b h = rw (le-ltb text_limit (length t) b) h

-- Two reports join.
pub join : (a b : List ℕ) (A B : List Observation) → read a ≡ accepted A → read b ≡ accepted B → length (a ++ b) ≤ text_limit
    → length (A ++ B) ≤ row_limit → read (a ++ b) ≡ accepted (A ++ B)
join a b A B f g bytes rows =
    let p = (read_accepted a A f).1 in
    let q = (read_accepted b B g).1 in
    read_within (a ++ b) (A ++ B) bytes
    (rw (lines_append a b (accepted_whole (lines a) begin 1 0 A p)) (join_lines (lines a) begin 1 0 A B (lines b) p q (omega arith)))
