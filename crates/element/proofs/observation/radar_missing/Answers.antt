-- `element::observation::radar_missing` meets its contract.
use mathlib.Core.Path.{sym, ◌∙◌}
use Rattle.element.proofs.Observations.{missing_is}
use Rattle.element.specs.Observation.{holds_any, is_in, radar_missing}
use Rattle.element.proofs.observation.radar_missing.Goals as goal

pub returns-then-not-holds_any : goal.returns-then-not-holds_any
unfolding radar_missing holds_any
returns-then-not-holds_any c = rw (sym c.holds_any.ensures ∙ c.if-not-holds_any.true)

pub returns-then-is_in : goal.returns-then-is_in
unfolding radar_missing holds_any
returns-then-is_in c =
    rw (sym c.holds_any.ensures ∙ c.if-not-holds_any.false, sym c.is_in.ensures ∙ c.if-is_in.true)
    (c.first_missing.ensures ∙ missing_is (is_in c.args.present) _ tt)

pub returns-else-is_in : goal.returns-else-is_in
unfolding radar_missing holds_any
returns-else-is_in c =
    rw (sym c.holds_any.ensures ∙ c.if-not-holds_any.false, sym c.is_in.ensures ∙ c.if-is_in.false)
    (c.first_missing-else-is_in.ensures ∙ missing_is (is_in c.args.present) _ tt)
