-- The answers of the entries as the paper gives them, from what the report reads as.
use Rattle.std.specs.Prelude.{ℕ, ◌-◌, List, [], Bool, cond, ◌&&◌, length, get_or, leb, Option, Some, None, Result, Ok, Err}
use Rattle.text.specs.declared.lines.Span.{Span}
use Rattle.refusal.specs.Paper.{paper, request, Answer, refused_by, absent, given}
use Rattle.refusal.specs.declared.Kind.TheVariants.{NoObservation, NoElement}
use Rattle.refusal.specs.declared.Refusal.{Refusal}
use Rattle.value.specs.Paper.{Exact, no_value, exact as exact_of, PaperValue, fault, right, paper_value}
use Rattle.value.specs.declared.Value.{Value}
use Rattle.element.specs.Table.{elements}
use Rattle.element.specs.Form.{value_of, has_value}
use Rattle.element.specs.Observation.{Observation, is_present}
use Rattle.report.specs.Report.{Outcome, accepted, refused}

-- The answer to a check: the number of observations, or a refusal.
abbrev pub checked_paper : Result ℕ Refusal → Answer ℕ
checked_paper (Ok n) = given n
checked_paper (Err x) = refused_by (paper x)

-- How many observations the report holds, or its refusal.
abbrev pub checked_answer : Outcome → Answer ℕ
checked_answer (accepted os) = given (length os)
checked_answer (refused x) = refused_by (paper x)

-- There is an observation of that number, counted from 1; an element of that number.
abbrev pub is_observation : List Observation → ℕ → Bool
is_observation os n = leb 1 n && leb n (length os)

abbrev pub is_element : ℕ → Bool
is_element e = leb 1 e && leb e elements

-- The value of element e of observation n, both counted from 1; [] where it is absent.
abbrev pub value_at : List Observation → ℕ → ℕ → List ℕ
value_at os n e = get_or (get_or os (n - 1) []) (e - 1) []

-- Where the value of element e of observation n starts.
abbrev pub start_at : List (List ℕ) → ℕ → ℕ → ℕ
start_at starts n e = get_or (get_or starts (n - 1) []) (e - 1) 0

-- The value's own bytes; where nothing is shown, the part handed back is empty.
abbrev pub shown_of : Outcome → ℕ → ℕ → List ℕ
shown_of (accepted os) n e = cond (is_observation os n && is_element e) (value_at os n e) []
shown_of (refused x) n e = []

-- The answer to a showing: where the value starts and its length, "absent", or a refusal.
abbrev pub showing_paper : Result (Option Span) Refusal → Answer (ℕ × ℕ)
showing_paper (Ok (Some span)) = given (span.start, span.length)
showing_paper (Ok None) = absent
showing_paper (Err x) = refused_by (paper x)

-- Where the value lies, or why nothing is shown: 16 before 17, both after every refusal of the report.
abbrev pub showing_answer : Outcome → List (List ℕ) → ℕ → ℕ → Answer (ℕ × ℕ)
showing_answer (accepted os) starts n e =
    cond (is_observation os n)
    (cond (is_element e)
    (cond (is_present (value_at os n e)) (given (start_at starts n e, length (value_at os n e))) absent)
    (refused_by (paper (request NoElement))))
    (refused_by (paper (request NoObservation)))
showing_answer (refused x) starts n e = refused_by (paper x)

-- The answer to a value: the exact value or "no value", "absent", or a refusal.
abbrev pub valued_paper : Result (Option Value) Refusal → Answer Exact
valued_paper (Ok (Some value)) = given (exact_of value)
valued_paper (Ok None) = absent
valued_paper (Err x) = refused_by (paper x)

-- The exact value of a value that is right; an accepted report has no other.
abbrev pub exact : PaperValue → Exact
exact (fault number) = no_value
exact (right value) = value

-- The value: an element without one is answered "no value", present or not; one that is not there, "absent".
abbrev pub valued_answer : Outcome → ℕ → ℕ → Answer Exact
valued_answer (accepted os) n e =
    cond (is_observation os n)
    (cond (is_element e)
    (cond (has_value (e - 1))
    (cond (is_present (value_at os n e)) (given (exact (paper_value (value_of (e - 1) (value_at os n e))))) absent)
    (given no_value))
    (refused_by (paper (request NoElement))))
    (refused_by (paper (request NoObservation)))
valued_answer (refused x) n e = refused_by (paper x)
