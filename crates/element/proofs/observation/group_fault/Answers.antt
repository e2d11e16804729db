-- `element::observation::group_fault` meets its contract.
use mathlib.Core.Bool.{cond, not, ◌&&◌}
use mathlib.Core.Path.{◌≡◌, ◌∙◌}
use Rattle.std.specs.Prelude.{Result, Ok, Err}
use Rattle.refusal.specs.Paper.{at}
use Rattle.refusal.specs.declared.Fault.{Fault}
use Rattle.refusal.specs.declared.Kind.TheVariants.{CentreNotEarth}
use Rattle.std.proofs.lemmas.Result.{err_from_is_err_and}
use Rattle.element.proofs.Observations.{fault_stands, fault_none, group_is}
use Rattle.element.specs.Observation.{correlation, correlation_needs, group_fault, is_in, photometry, photometry_needs}
use Rattle.element.proofs.observation.group_fault.Goals as goal

-- The fault of an observation whose centre is not the earth.
abbrev at_centre : Result Unit Fault
at_centre = Err (at CentreNotEarth 10)

pub returns-in_err-fault_at : goal.returns-in_err-fault_at
unfolding group_fault
returns-in_err-fault_at c =
    let p = err_from_is_err_and c.from_residual.result c.from_residual.ensures.1 in
    rw (p.1, p.2) (fault_stands _ _ _ _ _ _ c.location_missing-location.ensures c.fault_at.ensures c.in_err-fault_at.was)

pub returns-in_err-fault_at-2 : goal.returns-in_err-fault_at-2
unfolding group_fault
returns-in_err-fault_at-2 c =
    let p = err_from_is_err_and c.from_residual-in_err-fault_at-2.result c.from_residual-in_err-fault_at-2.ensures.1 in
    let photometry_is = c.group_missing-photometry.ensures ∙ group_is (is_in c.args.present) photometry photometry_needs tt in
    rw (p.1, p.2) (fault_stands _ _ _ _ _ _ photometry_is c.fault_at-2.ensures c.in_err-fault_at-2.was ∙ fault_none _ _ _ _ _ _ c.location_missing-location.ensures c.fault_at.ensures c.in_ok-fault_at.was)

pub returns-in_err-fault_at-3 : goal.returns-in_err-fault_at-3
unfolding group_fault
returns-in_err-fault_at-3 c =
    let p = err_from_is_err_and c.from_residual-in_err-fault_at-3.result c.from_residual-in_err-fault_at-3.ensures.1 in
    let photometry_is = c.group_missing-photometry.ensures ∙ group_is (is_in c.args.present) photometry photometry_needs tt in
    let correlation_is = c.group_missing-correlation.ensures ∙ group_is (is_in c.args.present) correlation correlation_needs tt in
    rw (p.1, p.2) (fault_stands _ _ _ _ _ _ correlation_is c.fault_at-3.ensures c.in_err-fault_at-3.was
    ∙ fault_none _ _ _ _ _ _ photometry_is c.fault_at-2.ensures c.in_ok-fault_at-2.was
    ∙ fault_none _ _ _ _ _ _ c.location_missing-location.ensures c.fault_at.ensures c.in_ok-fault_at.was)

pub returns-then-wgs84-earth : goal.returns-then-wgs84-earth
unfolding group_fault
returns-then-wgs84-earth c =
    let photometry_is = c.group_missing-photometry.ensures ∙ group_is (is_in c.args.present) photometry photometry_needs tt in
    let correlation_is = c.group_missing-correlation.ensures ∙ group_is (is_in c.args.present) correlation correlation_needs tt in
    let centre : at_centre ≡ cond (c.args.wgs84 && not c.args.earth) at_centre (Ok tt) = rw c.if-wgs84-earth.true in
    centre ∙ fault_none _ _ _ _ _ _ correlation_is c.fault_at-3.ensures c.in_ok-fault_at-3.was
    ∙ fault_none _ _ _ _ _ _ photometry_is c.fault_at-2.ensures c.in_ok-fault_at-2.was
    ∙ fault_none _ _ _ _ _ _ c.location_missing-location.ensures c.fault_at.ensures c.in_ok-fault_at.was

pub returns : goal.returns
unfolding group_fault
returns c =
    let photometry_is = c.group_missing-photometry.ensures ∙ group_is (is_in c.args.present) photometry photometry_needs tt in
    let correlation_is = c.group_missing-correlation.ensures ∙ group_is (is_in c.args.present) correlation correlation_needs tt in
    let centre : Ok tt ≡ cond (c.args.wgs84 && not c.args.earth) at_centre (Ok tt) = rw c.if-wgs84-earth.false in
    centre ∙ fault_none _ _ _ _ _ _ correlation_is c.fault_at-3.ensures c.in_ok-fault_at-3.was
    ∙ fault_none _ _ _ _ _ _ photometry_is c.fault_at-2.ensures c.in_ok-fault_at-2.was
    ∙ fault_none _ _ _ _ _ _ c.location_missing-location.ensures c.fault_at.ensures c.in_ok-fault_at.was
