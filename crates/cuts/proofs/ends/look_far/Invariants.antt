-- `cuts::ends::look_far` meets its contract. The invariant: the ends from that one on are looked at.
use Prim.Native.Nat.{◌-◌}
use mathlib.Core.Path.{◌≡◌}
use lib.ListN.{length}
use Rattle.cuts.specs.Look.{Looked}
use Rattle.cuts.proofs.ends.look_far.Given as goal

abbrev pub invariant-loop-look : goal.invariant-loop-look
invariant-loop-look l = Looked l.ahead.runs.now l.ahead.after.now l.look × (l.look.from ≡ l.initial.look.from)

abbrev pub decreases-loop-look : goal.decreases-loop-look
decreases-loop-look l = length l.ahead.runs.now - l.look.end
