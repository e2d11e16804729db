-- Where the values of a report lie: each value is shown as that part of the lent report which starts where the value starts.
use Rattle.std.specs.Prelude.{ℕ, suc, ◌+◌, List, [], ◌∷◌, cond, length, set, replicate}
use Rattle.text.specs.Lines.{Lines, end, cut, line, lines, fields, trim, leading_blanks}
use Rattle.element.specs.Table.{elements}
use Rattle.element.specs.Observation.{is_present}
use Rattle.report.specs.Report.{State, Step, next, row, bad, after_row, step, begin}

-- The starts of a data line's values by element: each value starts past its field's leading blanks, the fields beginning at a place of the text.
unfoldable pub fill_starts : List ℕ → List (List ℕ) → ℕ → List ℕ → List ℕ
fill_starts [] fs at starts = starts
fill_starts (c ∷ cs) [] at starts = starts
fill_starts (c ∷ cs) (f ∷ fs) at starts =
    fill_starts cs fs (at + suc (length f)) (cond (is_present (trim f)) (set starts c (at + leading_blanks f)) starts)

abbrev pub starts_of : List ℕ → List (List ℕ) → ℕ → List ℕ
starts_of columns fs at = fill_starts columns fs at (replicate elements 0)

-- After a line that begins at a place: an observation's starts are put before those of the text that goes on.
abbrev pub starts_after : Step → State → ℕ → ℕ → List ℕ → (State → ℕ → List (List ℕ)) → List (List ℕ)
starts_after (next s) old k at l go = go s k
starts_after (row o) old k at l go = starts_of old.columns (fields l) at ∷ go (after_row o old) (suc k)
starts_after (bad kind p) old k at l go = []

-- The starts of each observation's values, from a place of the text on.
unfoldable pub starts_from : State → ℕ → ℕ → Lines → List (List ℕ)
starts_from s at k end = []
starts_from s at k (cut l) = []
starts_from s at k (line l ls) = starts_after (step s k l) s k at l (λ s' k'. starts_from s' (at + suc (length l)) k' ls)

-- The starts of each observation's values in a report, by element.
unfoldable pub starts_in : List ℕ → List (List ℕ)
starts_in t = starts_from begin 0 0 (lines t)
