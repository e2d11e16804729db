-- `element::set::part_bytes` meets its contract.
use Rattle.element.proofs.Sets.{Adds}
use Rattle.element.proofs.set.part_bytes.Given as goal

abbrev pub invariant-loop-length : goal.invariant-loop-length
invariant-loop-length l = Adds l.lengths l.set l.left l.sum l.length-index
