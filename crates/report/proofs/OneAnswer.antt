-- No two answers of an entry are written alike in the paper, so each promise settles its answer.
use Prim.Native.Nat.{ℕ}
use mathlib.Core.Path.{◌≡◌, refl, sym, ap, ◌∙◌}
use Rattle.std.specs.Prelude.{Option, Some, None, Result, Ok, Err}
use Rattle.text.specs.declared.lines.Span.{Span}
use Rattle.refusal.specs.declared.Refusal.{Refusal}
use Rattle.refusal.specs.Paper.{Answer, refused_by, absent, given}
use Rattle.refusal.proofs.Papers.{refusal_of, refusal_of_paper}
use Rattle.value.specs.Paper.{Exact, no_value, whole, decimal, time, angle, scaled, exact}
use Rattle.value.specs.declared.Value.{Value}
use Rattle.value.specs.declared.Value.TheVariants.{NoValue, Whole, Decimal, Time, Angle, Scaled}
use Rattle.report.specs.Answers.{checked_paper, showing_paper, valued_paper}

-- The answer to a check that the paper's answer stands for.
abbrev checked_from : Answer ℕ → Result ℕ Refusal
checked_from (refused_by x) = Err (refusal_of x)
checked_from absent = Ok 0
checked_from (given n) = Ok n

-- The paper's answer of each stands for it.
checked_from_paper : (r : Result ℕ Refusal) → checked_from (checked_paper r) ≡ r
checked_from_paper (Ok n) = refl
checked_from_paper (Err x) = ap Err (refusal_of_paper x)

-- No two are written alike.
pub one_checked : (r s : Result ℕ Refusal) → checked_paper r ≡ checked_paper s → r ≡ s
one_checked r s e = sym (checked_from_paper r) ∙ (ap checked_from e ∙ checked_from_paper s)

-- The answer to a showing that the paper's answer stands for.
abbrev showing_from : Answer (ℕ × ℕ) → Result (Option Span) Refusal
showing_from (refused_by x) = Err (refusal_of x)
showing_from absent = Ok None
showing_from (given place) = Ok (Some (record { start = place.0; length = place.1 }))

-- The paper's answer of each stands for it.
showing_from_paper : (r : Result (Option Span) Refusal) → showing_from (showing_paper r) ≡ r
showing_from_paper (Ok (Some span)) = refl
showing_from_paper (Ok None) = refl
showing_from_paper (Err x) = ap Err (refusal_of_paper x)

-- No two are written alike.
pub one_showing : (r s : Result (Option Span) Refusal) → showing_paper r ≡ showing_paper s → r ≡ s
one_showing r s e = sym (showing_from_paper r) ∙ (ap showing_from e ∙ showing_from_paper s)

-- The value that an exact value stands for.
abbrev value_from : Exact → Value
value_from no_value = NoValue
value_from (whole n) = Whole n
value_from (decimal n places) = Decimal n places
value_from (time day microseconds) = Time day microseconds
value_from (angle units) = Angle units
value_from (scaled negative high low power) = Scaled negative high low power

-- The exact value of each stands for it.
value_from_exact : (value : Value) → value_from (exact value) ≡ value
value_from_exact NoValue = refl
value_from_exact (Whole n) = refl
value_from_exact (Decimal n places) = refl
value_from_exact (Time day microseconds) = refl
value_from_exact (Angle units) = refl
value_from_exact (Scaled negative high low power) = refl

-- The answer to a value that the paper's answer stands for.
abbrev valued_from : Answer Exact → Result (Option Value) Refusal
valued_from (refused_by x) = Err (refusal_of x)
valued_from absent = Ok None
valued_from (given value) = Ok (Some (value_from value))

-- The paper's answer of each stands for it.
valued_from_paper : (r : Result (Option Value) Refusal) → valued_from (valued_paper r) ≡ r
valued_from_paper (Ok (Some value)) = ap (λ (v : Value). Ok (Some v)) (value_from_exact value)
valued_from_paper (Ok None) = refl
valued_from_paper (Err x) = ap Err (refusal_of_paper x)

-- No two are written alike.
pub one_valued : (r s : Result (Option Value) Refusal) → valued_paper r ≡ valued_paper s → r ≡ s
one_valued r s e = sym (valued_from_paper r) ∙ (ap valued_from e ∙ valued_from_paper s)
