-- `text::digits::number_of` meets its contract. The invariant: what is left, put after the number so far, makes the number of the text; it has no more digits than bytes passed.
use lib.ListN.{get_or}
use mathlib.Core.Path.{◌∙◌, sym}
use native.Mathlib.Omega.{arith}
use Rattle.text.proofs.Numbers.{after_below, number_end, number_step, pow_below}
use Rattle.text.proofs.digits.number_of.Goals as goal

pub after-n-requires : goal.after-n-requires
after-n-requires c = omega (arith, pow_below c.loop-byte.byte-index 18 (omega arith))

pub loop-byte-preserved : goal.loop-byte-preserved
loop-byte-preserved c =
    let args = c.args in
    let loop = c.loop-byte in
    let loop-test = c.loop-byte-test in
    let s = args.text.now in
    rw c.after-n.ensures
    (omega arith, after_below loop.n (get_or s loop.byte-index 0) loop.byte-index loop.invariant.1, loop.invariant.2 ∙ number_step s loop.byte-index loop.n loop-test.true)

pub returns : goal.returns
returns c =
    let loop = c.loop-byte in
    let args = c.args in
    sym (loop.invariant.2 ∙ number_end args.text.now loop.byte-index loop.n c.loop-byte-test.false)
