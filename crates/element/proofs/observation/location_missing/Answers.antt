-- `element::observation::location_missing` meets its contract.
use mathlib.Core.Path.{◌∙◌}
use Rattle.std.proofs.lemmas.List.Folds.{list_any-append}
use Rattle.element.proofs.Observations.{missing_is}
use Rattle.element.specs.Observation.{covariances, group_missing, holds_any, is_in, location}
use Rattle.element.proofs.observation.location_missing.Goals as goal

pub returns-then-holds_any-has_covariance : goal.returns-then-holds_any-has_covariance
unfolding group_missing holds_any
returns-then-holds_any-has_covariance c =
    let holds = is_in c.args.present in
    rw (list_any-append holds location covariances, ← c.holds_any.ensures, ← c.has_covariance.ensures, c.if-holds_any-has_covariance.true)
    (c.first_missing.ensures ∙ missing_is holds location tt)

pub returns-else-holds_any-has_covariance : goal.returns-else-holds_any-has_covariance
unfolding group_missing holds_any
returns-else-holds_any-has_covariance c =
    let holds = is_in c.args.present in
    rw (list_any-append holds location covariances, ← c.holds_any.ensures, ← c.has_covariance.ensures, c.if-holds_any-has_covariance.false)
