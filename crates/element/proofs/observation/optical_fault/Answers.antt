-- `element::observation::optical_fault` meets its contract.
use mathlib.Core.Path.{sym, ◌∙◌}
use Rattle.std.proofs.lemmas.Result.{err_from_is_err_and}
use Rattle.element.proofs.Observations.{fault_stands, fault_none, missing_is}
use Rattle.element.specs.Observation.{holds_any, is_in, needed, optical_fault}
use Rattle.element.proofs.observation.optical_fault.Goals as goal

pub returns-then-not-holds_any : goal.returns-then-not-holds_any
unfolding optical_fault holds_any
returns-then-not-holds_any c = rw (sym c.holds_any.ensures ∙ c.if-not-holds_any.true)

pub returns-in_err-fault_at : goal.returns-in_err-fault_at
unfolding optical_fault holds_any
returns-in_err-fault_at c =
    let p = err_from_is_err_and c.from_residual.result c.from_residual.ensures.1 in
    rw (p.1, p.2, sym c.holds_any.ensures ∙ c.if-not-holds_any.false)
    (fault_stands _ _ _ _ _ _ (c.first_missing.ensures ∙ missing_is (is_in c.args.present) needed tt) c.fault_at.ensures c.in_err-fault_at.was)

pub returns : goal.returns
unfolding optical_fault holds_any
returns c =
    rw (sym c.holds_any.ensures ∙ c.if-not-holds_any.false)
    (c.group_fault.ensures
    ∙ fault_none _ _ _ _ _ _ (c.first_missing.ensures ∙ missing_is (is_in c.args.present) needed tt) c.fault_at.ensures c.in_ok-fault_at.was)
