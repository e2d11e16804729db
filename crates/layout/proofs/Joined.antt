-- Where the text of two accepted reports, one after the other, is accepted, its observations are those of the first and then those of the
-- second: so the two limits hold for them.
use Prim.Native.Nat.{ℕ, suc, ◌+◌, ◌≤◌}
use mathlib.Core.Path.{◌≡◌, ap, sym, ◌∙◌}
use mathlib.Core.List.{List, ◌∷◌, ◌++◌}
use native.Mathlib.Omega.{arith}
use lib.ListN.{length, length-append}
use Rattle.text.specs.Lines.{Lines, end, cut, line, lines}
use Rattle.element.specs.Observation.{Observation}
use Rattle.report.specs.declared.state.Need.TheVariants as Need
use Rattle.report.specs.Report.{row_limit, State, Step, next, row, bad, opened, step, accepted, after_row, after, read_from, begin, read}
use Rattle.report.proofs.Join.{refused≢accepted, more_accepted, followed, lines_append, read_moved, begin_anywhere, end_opens, accepted_whole, read_accepted}
use Rattle.layout.specs.Seam.{Joinable}
use Rattle.layout.proofs.Accepted.{accepted_rows}

-- What is accepted after lines of the observations A: it is read where a block may begin, and all observations are these and the rest.
record After (A L : List Observation) (others : Lines) : Type 0 where
  pub state : State
  pub line : ℕ
  pub count : ℕ
  pub rest : List Observation
  pub begins : opened state.need ≡ opened Need.Version
  pub reads : read_from state line count others ≡ accepted rest
  pub is : L ≡ A ++ rest

-- Lines that are accepted, and others after them that are accepted together with them.
after_lines : (ls : Lines) (s : State) (n k : ℕ) (A L : List Observation) (others : Lines) → read_from s n k ls ≡ accepted A
    → read_from s n k (followed ls others) ≡ accepted L → After A L others
unfolding read_from followed
after_lines end s n k A L others h g =
    let r = end_opens s.need n A h in
    record { state = s; line = n; count = k; rest = L; begins = r.0; reads = g; is = ap (λ (x : List Observation). x ++ L) (sym r.1) }
after_lines (cut l) s n k A L others h g = absurd (refused≢accepted h)
after_lines (line l ls) s n k A L others h g = by_step (step s k l) (λ t j M N e f. after_lines ls t (suc n) j M N others e f) h g
  where
    by_step : (x : Step)
        → ((t : State) (j : ℕ) (M N : List Observation) → read_from t (suc n) j ls ≡ accepted M → read_from t (suc n) j (followed ls others) ≡ accepted N
        → After M N others)
        → after x n s k (λ t j. read_from t (suc n) j ls) ≡ accepted A
        → after x n s k (λ t j. read_from t (suc n) j (followed ls others)) ≡ accepted L → After A L others
    by_step (next t) ih h g = ih t k A L h g
    by_step (row o) ih h g =
        let r = more_accepted o (read_from (after_row o s) (suc n) (suc k) ls) A h in
        let q = more_accepted o (read_from (after_row o s) (suc n) (suc k) (followed ls others)) L g in
        let i = ih (after_row o s) (suc k) r.0 q.0 r.1 q.1 in
        record {
          state = i.state;
          line = i.line;
          count = i.count;
          rest = i.rest;
          begins = i.begins;
          reads = i.reads;
          is = q.2 ∙ (ap (λ (x : List Observation). o ∷ x) i.is ∙ sym (ap (λ (x : List Observation). x ++ i.rest) r.2));
        }
    by_step (bad kind p) ih h g = absurd (refused≢accepted h)

-- The accepted text of two accepted reports.
pub joined_is : (a b : List ℕ) (A B L : List Observation) → read a ≡ accepted A → read b ≡ accepted B → read (a ++ b) ≡ accepted L → L ≡ A ++ B
joined_is a b A B L f g h =
    let p = (read_accepted a A f).1 in
    let q = (read_accepted b B g).1 in
    let whole = lines_append a b (accepted_whole (lines a) begin 1 0 A p) in
    let i = after_lines (lines a) begin 1 0 A L (lines b) p (rw whole at (read_accepted (a ++ b) L h).1) in
    let few : 0 + length i.rest ≤ row_limit =
    omega (arith, accepted_rows (a ++ b) L h, ap (λ (x : List Observation). length x) i.is, length-append A i.rest) in
    let moved : read_from i.state 1 0 (lines b) ≡ accepted i.rest = read_moved (lines b) i.state i.line i.count 1 0 i.rest i.reads few in
    let begun : read_from i.state 1 0 (lines b) ≡ accepted B =
    begin_anywhere (lines b) i.state 1 0 B i.begins q (omega (arith, accepted_rows b B g)) in
    let e : accepted i.rest ≡ accepted B = sym moved ∙ begun in
    let z : i.rest ≡ B = cc in
    i.is ∙ ap (λ (x : List Observation). A ++ x) z

-- So the limits hold of them.
pub joinable : (a b : List ℕ) (A B L : List Observation) → read a ≡ accepted A → read b ≡ accepted B → read (a ++ b) ≡ accepted L → Joinable a b A B
joinable a b A B L f g h = record {
  first = f;
  second = g;
  bytes = (read_accepted (a ++ b) L h).0;
  rows = omega (arith, accepted_rows (a ++ b) L h, ap (λ (x : List Observation). length x) (joined_is a b A B L f g h));
}
