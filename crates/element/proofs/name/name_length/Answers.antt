-- `element::name::name_length` meets its contract.
use mathlib.Core.Path.{ap, sym}
use mathlib.Core.List.{[]}
use lib.ListN.{get_or-eq_default, length}
use Rattle.element.specs.Table.{names}
use Rattle.element.proofs.name.name_length.Goals as goal

pub returns-else-index-lt-ELEMENTS : goal.returns-else-index-lt-ELEMENTS
returns-else-index-lt-ELEMENTS c = ap length (sym (get_or-eq_default names [] {n = c.args.index} c.if-index-lt-ELEMENTS.false))
