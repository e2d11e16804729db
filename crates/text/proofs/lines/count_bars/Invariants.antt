use Prim.Native.Nat.{◌≤◌, ◌+◌}
use mathlib.Core.Path.{◌≡◌}
use lib.ListN.{length, drop}
use Rattle.text.specs.Steps.{bars_in}
use Rattle.text.proofs.lines.count_bars.Given as goal

abbrev pub invariant-loop-byte : goal.invariant-loop-byte
invariant-loop-byte l = (l.byte-index ≤ length l.text) × (l.count ≤ l.byte-index) × (bars_in l.text ≡ l.count + bars_in (drop l.byte-index l.text))
