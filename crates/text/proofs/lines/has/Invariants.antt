use Prim.Native.Nat.{◌≤◌}
use mathlib.Core.Path.{◌≡◌}
use lib.ListN.{length, drop}
use mathlib.Core.Bool.{◌||◌}
use Rattle.text.specs.Steps.{holds}
use Rattle.text.proofs.lines.has.Given as goal

abbrev pub invariant-loop-byte : goal.invariant-loop-byte
invariant-loop-byte l = (l.byte-index ≤ length l.text) × (holds l.mark l.text ≡ l.any || holds l.mark (drop l.byte-index l.text))
