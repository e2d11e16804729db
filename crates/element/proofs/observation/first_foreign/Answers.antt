-- `element::observation::first_foreign` meets its contract.
use mathlib.Core.Bool.{cond}
use mathlib.Core.Path.{◌≡◌, ap, sym, ◌∙◌}
use Rattle.std.specs.Prelude.{find}
use Rattle.std.specs.Option.{option_or}
use Rattle.element.proofs.Observations.{foreign_is}
use Rattle.element.specs.Observation.{is_in}
use Rattle.element.specs.Table.{upward}
use Rattle.element.proofs.observation.first_foreign.Goals as goal
use Rattle.element.proofs.observation.first_foreign.Goals.{then-is_in, else-is_in}

-- The first that is there of the two that doppler decides.
other : (c : goal.After-or-2) → c.if-is_in.other ≡ find (is_in c.args.present) (upward (cond (is_in c.args.present 34) 32 34) 2)
other c =
    elim c.if-is_in.branch [
      | then-is_in w ↦ rw (sym c.is_in.ensures ∙ w.if-is_in.true) (w.other-is ∙ w.first_held-other.ensures)
      | else-is_in w ↦ rw (sym c.is_in.ensures ∙ w.if-is_in.false) (w.other-is ∙ w.first_held-other-else-is_in.ensures)
    ]

pub returns : goal.returns
returns c =
    c.or-2.ensures ∙ ap (λ o. option_or o c.first_held.result) c.or.ensures
    ∙ foreign_is (is_in c.args.present 34) (is_in c.args.present) c.first_held-always.ensures (other c) c.first_held.ensures
