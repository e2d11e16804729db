-- `value::covariance::in_parts` meets its contract. The invariant: the parts so far, and what is left put after them, make the number of the text.
use mathlib.Core.Path.{◌∙◌, sym}
use mir.Facts.{to_z-of_z}
use Rattle.value.proofs.Scaled.{parts_all, parts_digit, parts_other}
use Rattle.value.proofs.covariance.in_parts.Goals as goal
use Rattle.value.proofs.covariance.in_parts.Goals.{then-is_of, else-is_of}

pub returns : goal.returns
returns c =
    let start = c in
    let loop = c.loop-byte in
    rw (to_z-of_z start.ranges.power) (parts_all start.args.text.now loop.high loop.low loop.byte-index start.args.minus start.args.power loop.invariant c.loop-byte-test.false)

pub loop-byte-preserved : goal.loop-byte-preserved
loop-byte-preserved c =
    let loop = c.loop-byte in
    let loop-test = c.loop-byte-test in
    let s = c.args.text.now in
    elim c.if-is_of.branch [
      | then-is_of w ↦ rw (w.high-is, w.low-is, w.from.ensures) (parts_digit s loop.high loop.low loop.byte-index loop.invariant loop-test.true (sym c.is_of.ensures ∙ w.if-is_of.true))
      | else-is_of w ↦ rw (w.high-is, w.low-is) (parts_other s loop.high loop.low loop.byte-index loop.invariant loop-test.true (sym c.is_of.ensures ∙ w.if-is_of.false))
    ]
