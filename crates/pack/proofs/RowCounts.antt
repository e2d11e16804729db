-- How many rows a report has: no more than the limit, and no more than it has lines.
use Prim.Native.Nat.{ℕ, suc, ◌+◌, ◌≤◌, ◌<◌}
use mathlib.Core.Path.{◌≡◌, refl, ap, ◌∙◌}
use mathlib.Core.Bool.{true}
use mir.Val.{bool_byte}
use mathlib.Core.List.{List, [], ◌∷◌}
use native.Mathlib.Omega.{arith}
use lib.Dec.{eqb, leb}
use lib.ListN.{length, drop, get_or, drop_of_length-le}
use lib.Seq.{drop-cons}
use native.Mathlib.Numerals.{add-one}
use borrow.Author.Tests.{leb-true}
use Rattle.text.specs.Lines.{Lines, end, cut, line, lines, onto, line_feed}
use Rattle.text.proofs.Bools.{bools, both}
use Rattle.element.specs.Observation.{Observation}
use Rattle.report.specs.Report.{State, Step, next, row, bad, Outcome, accepted, refused, after_row, after, read_from, read, begin, step, row_limit}
use Rattle.report.proofs.Join.{refused≢accepted, more_accepted, end_opens, read_accepted}
use Rattle.layout.proofs.Accepted.{accepted_rows}
use Rattle.pack.specs.Inner.{observations_of, observed, feeds, short_rows, short_text, is_short}

-- A byte more: it counts 1 where it is LF.
pub feeds_next : (t : List ℕ) (i : ℕ) → i < length t
    → (bool_byte (eqb (get_or t i 0) line_feed) ≤ 1) × (feeds (drop i t) ≡ bool_byte (eqb (get_or t i 0) line_feed) + feeds (drop (i + 1) t))
unfolding feeds
feeds_next t i h =
    rw (add-one i, drop-cons t i 0 h)
    (bools (eqb (get_or t i 0) line_feed) (λ e. rw e (omega arith, omega arith)) (λ e. rw e (omega arith, omega arith)))

pub feeds_end : (t : List ℕ) (i : ℕ) → length t ≤ i → feeds (drop i t) ≡ 0
unfolding feeds
feeds_end t i h = rw (drop_of_length-le t)

-- How many lines there are.
abbrev line_count : Lines → ℕ
line_count end = 0
line_count (cut l) = 0
line_count (line l rest) = suc (line_count rest)

count_onto : (b : ℕ) (ls : Lines) → line_count (onto b ls) ≡ line_count ls
count_onto b end = refl
count_onto b (cut l) = refl
count_onto b (line l rest) = refl

-- There are as many as LFs.
count_feeds : (t : List ℕ) → line_count (lines t) ≡ feeds t
unfolding feeds
count_feeds [] = refl
count_feeds (b ∷ t) =
    bools (eqb b line_feed) (λ e. rw e (omega (arith, count_feeds t))) (λ e. rw e (count_onto b (lines t) ∙ omega (arith, count_feeds t)))

-- Each row is a line.
rows_counted : (ls : Lines) (s : State) (n k : ℕ) (L : List Observation) → read_from s n k ls ≡ accepted L → length L ≤ line_count ls
unfolding read_from
rows_counted end s n k L h = rw (end_opens s.need n L h).1 (omega arith)
rows_counted (cut l) s n k L h = absurd (refused≢accepted h)
rows_counted (line l ls) s n k L h = by_step (step s k l) (λ t j M e. rows_counted ls t (suc n) j M e) h
  where
    by_step : (x : Step) → ((t : State) (j : ℕ) (M : List Observation) → read_from t (suc n) j ls ≡ accepted M → length M ≤ line_count ls)
        → after x n s k (λ t j. read_from t (suc n) j ls) ≡ accepted L → length L ≤ suc (line_count ls)
    by_step (next t) ih h = omega (arith, ih t k L h)
    by_step (row o) ih h =
        let r = more_accepted o (read_from (after_row o s) (suc n) (suc k) ls) L h in
        omega (arith, ih (after_row o s) (suc k) r.0 r.1, ap length r.2)
    by_step (bad kind p) ih h = absurd (refused≢accepted h)

-- What holds of the observations of every accepted report, and of none, holds of those of any report.
any_report : (P : List Observation → Type 0) (report : List ℕ) → P [] → ((L : List Observation) → read report ≡ accepted L → P L) → P (observed report)
unfolding observed
any_report P report none some = go (read report) refl
  where
    go : (o : Outcome) → read report ≡ o → P (observations_of o)
    go (accepted L) e = some L e
    go (refused x) e = none

-- A report has no more rows than lines.
pub rows_lines : (report : List ℕ) → length (observed report) ≤ feeds report
rows_lines report =
    any_report (λ L. length L ≤ feeds report) report (omega arith)
    (λ L h. omega (arith, rows_counted (lines report) begin 1 0 L (read_accepted report L h).1, count_feeds report))

-- It has no more than the limit.
pub rows_few : (report : List ℕ) → length (observed report) ≤ row_limit
rows_few report = any_report (λ L. length L ≤ row_limit) report (omega arith) (λ L h. accepted_rows report L h)

-- A short one has few.
pub short_few : (report : List ℕ) → is_short report ≡ true → length (observed report) ≤ short_rows
unfolding is_short
short_few report e = omega (arith, rows_lines report, leb-true (feeds report) short_rows (both (leb (length report) short_text) (leb (feeds report) short_rows) e).1)
