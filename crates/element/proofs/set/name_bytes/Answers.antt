-- `element::set::name_bytes` meets its contract.
use mathlib.Core.Path.{◌∙◌}
use native.Mathlib.Omega.{arith}
use lib.Count.{trailing_le}
use Rattle.element.proofs.Sets.{names_done, names_past, name_more, name_fits, left_less, name_lengths_length}
use Rattle.element.proofs.set.name_bytes.Goals as goal

pub overflow_add-next : goal.overflow_add-next
overflow_add-next c = record { fits = omega (arith, trailing_le 64 c.loop-left.left, c.loop-left.invariant.0.within, name_lengths_length) }

pub returns-then-next-ge-ELEMENTS : goal.returns-then-next-ge-ELEMENTS
returns-then-next-ge-ELEMENTS c = names_past c.loop-left.invariant.0 c.if-next-ge-ELEMENTS.true

pub overflow_add-sum : goal.overflow_add-sum
overflow_add-sum c = name_fits c.loop-left.invariant.0 c.loop-left-test.true c.loop-left.invariant.1 c.if-next-ge-ELEMENTS.false _ (c.from-sum.ensures ∙ c.length_at.ensures)

pub loop-left-preserved : goal.loop-left-preserved
loop-left-preserved c =
    let inv = c.loop-left.invariant in
    let length_is = c.from-sum.ensures ∙ c.length_at.ensures in (
      name_more inv.0 c.loop-left-test.true inv.1 c.if-next-ge-ELEMENTS.false _ length_is,
      left_less inv.0 c.loop-left-test.true inv.1 c.if-next-ge-ELEMENTS.false _ length_is,
    )

pub returns : goal.returns
returns c = names_done c.loop-left.invariant.0 c.loop-left-test.false
