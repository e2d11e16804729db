use Prim.Native.Nat.{◌-◌}
use mathlib.Core.Path.{◌∙◌, ap, sym}
use native.Mathlib.Omega.{arith}
use lib.ListN.{length, length-take}
use Rattle.text.proofs.LineLaws.{trail_start, trail_on, trail_here}
use Rattle.text.proofs.lines.kept.Goals as goal

pub loop-left-preserved : goal.loop-left-preserved
loop-left-preserved c =
    let left = c.loop-left.left.now in
    (omega (arith, length-take (length left - 1) left), c.loop-left.invariant.1 ∙ trail_on left (length left) (trail_start left) c.in-32.len_at_least (omega arith) (omega arith))

pub returns-in_default-2 : goal.returns-in_default-2
returns-in_default-2 c =
    let left = c.loop-left.left.now in
    (trail_here left (length left) (trail_start left) c.in_default.len_at_least (omega arith) (omega arith) ∙ ap length (sym c.loop-left.invariant.1), c.loop-left.invariant.0)
