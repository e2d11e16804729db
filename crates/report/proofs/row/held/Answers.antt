use mathlib.Core.Path.{ap, sym, ◌∙◌}
use Rattle.std.specs.Prelude.{Result}
use Rattle.std.proofs.lemmas.Result.{err_from_is_err_and}
use Rattle.refusal.specs.declared.Fault.{Fault}
use Rattle.element.specs.Observation.{is_radar_set}
use Rattle.report.specs.Inner.{held_by, kind_by}
use Rattle.report.proofs.row.held.Goals as goal

pub returns-in_err-observation_fault : goal.returns-in_err-observation_fault
unfolding held_by
returns-in_err-observation_fault c =
    let p = err_from_is_err_and c.from_residual.result c.from_residual.ensures.1 in
    let fault = sym c.observation_fault.ensures ∙ c.in_err-observation_fault.was in
    rw (p.1, p.2) (sym (ap (λ (f : Result Unit Fault). kind_by f c.args.before (is_radar_set c.args.marks.present)) fault))

pub returns-then-unwrap_or-radar : goal.returns-then-unwrap_or-radar
unfolding held_by
returns-then-unwrap_or-radar c =
    let radar = c.is_radar-radar.ensures in
    let alike = rw (c.unwrap_or.ensures, radar) at c.if-unwrap_or-radar.true in
    let fault = sym c.observation_fault.ensures ∙ c.in_ok-observation_fault.was in
    rw radar (sym (ap (λ (f : Result Unit Fault). kind_by f c.args.before (is_radar_set c.args.marks.present)) fault ∙ rw alike))

pub returns : goal.returns
unfolding held_by
returns c =
    let other = rw (c.unwrap_or.ensures, c.is_radar-radar.ensures) at c.if-unwrap_or-radar.false in
    let fault = sym c.observation_fault.ensures ∙ c.in_ok-observation_fault.was in
    sym (ap (λ (f : Result Unit Fault). kind_by f c.args.before (is_radar_set c.args.marks.present)) fault ∙ rw other)
