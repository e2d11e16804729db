-- `text::lines::scan_from` meets its contract.
use Prim.Native.Nat.{◌+◌}
use Rattle.text.specs.Steps.{Scanning}
use Rattle.text.proofs.lines.scan_from.Given as goal

abbrev pub invariant-loop-i : goal.invariant-loop-i
invariant-loop-i l = Scanning l.text l.printable l.fields (l.from + l.i)
