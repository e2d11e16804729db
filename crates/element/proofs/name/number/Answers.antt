-- `element::name::number` meets its contract.
use mathlib.Core.Path.{◌∙◌}
use Rattle.element.proofs.Names.{found_first, number_none, number_some}
use Rattle.element.proofs.name.number.Goals as goal

pub returns-in_err-index : goal.returns-in_err-index
returns-in_err-index c =
    rw c.from_residual.ensures (number_none c.args.name.now (c.in_err-index.ensures ∙ found_first c.args.name.now))

pub returns : goal.returns
returns c = number_some c.args.name.now c.in_ok-index.index (c.in_ok-index.ensures ∙ found_first c.args.name.now)
