-- `cuts::ends::look_near` meets its contract. The invariant: all ends looked at but the last are too soon.
use Prim.Native.Nat.{◌-◌}
use lib.ListN.{length}
use Rattle.cuts.proofs.LookLaws.{Nearing}
use Rattle.cuts.proofs.ends.look_near.Given as goal

abbrev pub invariant-loop-look : goal.invariant-loop-look
invariant-loop-look l = Nearing l.ahead.runs.now l.ahead.after.now l.look

abbrev pub decreases-loop-look : goal.decreases-loop-look
decreases-loop-look l = length l.ahead.runs.now - l.look.end
