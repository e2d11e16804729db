-- `element::name::index_from` meets its contract.
use mathlib.Core.Path.{◌∙◌}
use Rattle.element.proofs.Names.{found_first, found_later}
use Rattle.element.proofs.name.index_from.Goals as goal

pub returns-in-Some : goal.returns-in-Some
returns-in-Some c = found_later c.args.name.now c.min.result c.in-Some.index c.in-Some.ensures

pub returns-in-None : goal.returns-in-None
returns-in-None c = c.next-in-None.ensures ∙ found_first c.args.name.now
