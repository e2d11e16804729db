-- `text::lines::scan_from` meets its contract.
use Prim.Native.Nat.{◌+◌}
use mathlib.Core.Path.{◌≡◌, ◌∙◌, sym}
use native.Mathlib.Omega.{arith}
use Rattle.text.proofs.LineLaws.{rest_at, rest_in, scan_on, scan_plain}
use Rattle.text.proofs.lines.scan_from.Goals as goal

pub loop-i-preserved-then-is_plain : goal.loop-i-preserved-then-is_plain
loop-i-preserved-then-is_plain c =
    let s = c.args.text.now in let from = c.args.from in let i = c.loop-i.i in
    let on : from + (i + 1) ≡ from + i + 1 = omega arith in
    let byte = rest_at s from i c.requires.within c.loop-i-test.true in
    rw on (scan_plain s _ _ (from + i) c.loop-i.invariant (rest_in s from i c.requires.within c.loop-i-test.true) (rw byte at (sym c.is_plain.ensures ∙ c.if-is_plain.true)))

pub loop-i-preserved : goal.loop-i-preserved
loop-i-preserved c =
    let s = c.args.text.now in let from = c.args.from in let i = c.loop-i.i in
    let on : from + (i + 1) ≡ from + i + 1 = omega arith in
    let byte = rest_at s from i c.requires.within c.loop-i-test.true in
    rw on (scan_on s _ _ (from + i) c.loop-i.invariant (rest_in s from i c.requires.within c.loop-i-test.true) (rw byte at c.if-byte-eq10.false) _ (rw byte at c.is_printable-printable.ensures) _ (rw byte at c.bars-fields.ensures.0))
