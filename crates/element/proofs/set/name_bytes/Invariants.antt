-- `element::set::name_bytes` meets its contract.
use Prim.Native.Nat.{◌-◌, ◌^◌, ◌<◌}
use Rattle.element.specs.Set.{name_lengths}
use Rattle.element.specs.Table.{elements}
use Rattle.element.proofs.Sets.{Adds}
use Rattle.element.proofs.set.name_bytes.Given as goal

abbrev pub invariant-loop-left : goal.invariant-loop-left
invariant-loop-left l = Adds name_lengths l.set l.left l.sum l.e × (l.left < 2 ^ 64)

abbrev pub decreases-loop-left : goal.decreases-loop-left
decreases-loop-left l = elements - l.e
