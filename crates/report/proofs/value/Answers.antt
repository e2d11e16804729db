use mathlib.Core.Path.{sym, ◌∙◌}
use Rattle.std.proofs.lemmas.Result.{err_from_is_err_and}
use native.Mathlib.Omega.{arith}
use Rattle.report.proofs.AnswerLaws.{shown_at, value_at_lem, value_absent, value_none, value_refused, worth}
use Rattle.report.proofs.value.Goals as goal

pub returns-in_err-place : goal.returns-in_err-place
returns-in_err-place c =
    let p = err_from_is_err_and c.from_residual.result c.from_residual.ensures.1 in
    rw (p.1, p.2) (value_refused c.located.ensures c.in_err-place.was)

pub returns-then-not-has_value : goal.returns-then-not-has_value
returns-then-not-has_value c =
    let none = sym c.has_value.ensures ∙ c.if-not-has_value.true in
    value_none c.located.ensures c.in_ok-place.was (rw c.saturating_sub-index.ensures at none)

pub returns-in-Some : goal.returns-in-Some
returns-in-Some c =
    let valued = sym c.has_value.ensures ∙ c.if-not-has_value.false in
    let value = rw c.saturating_sub-index.ensures at c.value.ensures in
    value_at_lem c.located.ensures c.in_ok-place.was c.in-Some.is (rw c.saturating_sub-index.ensures at valued) (rw (c.unwrap_or.ensures, value) (worth _))

pub returns-in-None : goal.returns-in-None
returns-in-None c =
    let valued = sym c.has_value.ensures ∙ c.if-not-has_value.false in
    value_absent c.located.ensures c.in_ok-place.was c.in-None.is (rw c.saturating_sub-index.ensures at valued)

pub overflow_add-text : goal.overflow_add-text
overflow_add-text c = omega (arith, (shown_at c.located.ensures c.in_ok-place.was c.in-Some.is).0)

pub slice_bounds-text-end : goal.slice_bounds-text-end
slice_bounds-text-end c = (shown_at c.located.ensures c.in_ok-place.was c.in-Some.is).0
