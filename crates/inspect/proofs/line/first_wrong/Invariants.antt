-- `inspect::line::first_wrong` meets its contract.
use Prim.Native.Nat.{◌+◌}
use lib.ListN.{drop}
use mathlib.Core.Path.{◌≡◌}
use Rattle.inspect.specs.Line.{printable_front}
use Rattle.inspect.proofs.line.first_wrong.Given as goal

abbrev pub invariant-loop-i : goal.invariant-loop-i
invariant-loop-i l = printable_front l.line ≡ l.i + printable_front (drop l.i l.line)
