-- Two texts compared by the observations that they read as.
use Rattle.std.specs.Prelude.{ℕ, zero, suc, ◌+◌, cond, List, [], ◌∷◌, eqb, get_or, None}
use Rattle.text.specs.Numbered.{numbered}
use Rattle.text.specs.Part.{same}
use Rattle.element.specs.Table.{elements}
use Rattle.element.specs.Observation.{Observation}
use Rattle.report.specs.Report.{Outcome, accepted, refused}
use Rattle.comparison.specs.declared.Compared.{Compared}
use Rattle.comparison.specs.declared.Compared.TheVariants.{Same, Differ, FirstRefused, SecondRefused}

-- The number of the first element, of so many from an index on, whose values differ; 0 where none does.
unfoldable pub differs_from : ℕ → ℕ → (ℕ → List ℕ) → (ℕ → List ℕ) → ℕ
differs_from zero index first second = 0
differs_from (suc left) index first second =
    cond (same (first index) (second index)) (differs_from left (index + 1) first second) (index + 1)

-- The number of the first element whose values differ in two observations; 0 where none does.
unfoldable pub first_element : Observation → Observation → ℕ
first_element first second = differs_from elements 0 (λ index. get_or first index []) (λ index. get_or second index [])

-- Two lists of observations after so many that are the same: the first observation in which they differ, counted from 1, with the number of
-- its first element that differs, none where one list ends before it.
unfoldable pub first_difference : ℕ → List Observation → List Observation → Compared
first_difference before [] [] = Same before
first_difference before [] (b ∷ second) = Differ (before + 1) None
first_difference before (a ∷ first) [] = Differ (before + 1) None
first_difference before (a ∷ first) (b ∷ second) =
    cond (eqb (first_element a b) 0) (first_difference (before + 1) first second) (Differ (before + 1) (numbered (first_element a b)))

-- What comparing comes to, from what the two texts read as: the refusal of the first, or else of the second, or else their difference.
abbrev pub compared_of : Outcome → Outcome → Compared
compared_of (refused x) second = FirstRefused x
compared_of (accepted first) (refused x) = SecondRefused x
compared_of (accepted first) (accepted second) = first_difference 0 first second
