-- `inspect::line::first_present` meets its contract.
use Prim.Native.Nat.{◌+◌, ◌-◌}
use mathlib.Core.Path.{◌≡◌}
use Rattle.inspect.specs.Line.{present_from, first_present}
use Rattle.inspect.proofs.line.first_present.Given as goal

abbrev pub invariant-loop-element : goal.invariant-loop-element
invariant-loop-element l = first_present l.line l.columns l.first l.last ≡ present_from (l.element-end + 1 - l.element) l.element l.line l.columns
