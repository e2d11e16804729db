-- `element::name::length_at` meets its contract.
use Rattle.element.proofs.Names.{in_order, size_is}
use Rattle.element.proofs.name.length_at.Goals as goal

pub overflow_sub-result : goal.overflow_sub-result
overflow_sub-result c = in_order c.args.index c.requires

pub returns : goal.returns
returns c = size_is c.args.index c.requires
