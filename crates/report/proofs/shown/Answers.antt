use Rattle.report.proofs.AnswerLaws.{shown_at, shown_absent, shown_refused}
use native.Mathlib.Omega.{arith}
use Rattle.report.proofs.shown.Goals as goal

pub returns-in-Ok-Some : goal.returns-in-Ok-Some
returns-in-Ok-Some c = (shown_at c.located.ensures c.in-Ok-Some.is c.in-Ok-Some.field-0-is).1

pub overflow_add-result : goal.overflow_add-result
overflow_add-result c = omega (arith, (shown_at c.located.ensures c.in-Ok-Some.is c.in-Ok-Some.field-0-is).0)

pub slice_bounds-result-end : goal.slice_bounds-result-end
slice_bounds-result-end c = (shown_at c.located.ensures c.in-Ok-Some.is c.in-Ok-Some.field-0-is).0

pub returns-in-Ok-None : goal.returns-in-Ok-None
returns-in-Ok-None c = shown_absent c.located.ensures c.in-Ok-None.is c.in-Ok-None.field-0-is

pub returns-in-Err : goal.returns-in-Err
returns-in-Err c = shown_refused c.located.ensures c.in-Err.is
