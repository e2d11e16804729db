-- `element::set::part_bytes` meets its contract.
use native.Mathlib.Omega.{arith}
use Rattle.element.proofs.Sets.{adds_all, adds_fit, adds_more, values_fit}
use Rattle.element.proofs.set.part_bytes.Goals as goal

pub overflow_add-sum : goal.overflow_add-sum
overflow_add-sum c =
    let args = c.args in
    adds_fit c.loop-length.invariant _ (omega arith) c.length_if-sum.ensures.0
    (values_fit args.lengths.now args.set (λ e. omega (arith, c.type_inv.lengths e)) c.ranges.set.fits)

pub loop-length-preserved : goal.loop-length-preserved
loop-length-preserved c = adds_more c.loop-length.invariant _ (omega arith) c.length_if-sum.ensures.0

pub returns : goal.returns
returns c = adds_all c.loop-length.invariant (omega arith)
