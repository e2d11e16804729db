use Prim.Native.Nat.{◌≤◌}
use mathlib.Core.Path.{◌≡◌}
use lib.ListN.{length, drop}
use mathlib.Core.Bool.{◌&&◌}
use Rattle.text.specs.Lines.{printable}
use Rattle.text.proofs.lines.all_printable.Given as goal

abbrev pub invariant-loop-byte : goal.invariant-loop-byte
invariant-loop-byte l = (l.byte-index ≤ length l.text) × (printable l.text ≡ l.all && printable (drop l.byte-index l.text))
