-- `inspect::part::start` meets its contract.
use mathlib.Core.Path.{◌≡◌}
use Rattle.inspect.specs.Part.{part_start}
use Rattle.inspect.proofs.part.start.Given as goal

abbrev pub invariant-loop : goal.invariant-loop
invariant-loop l = l.at ≡ part_start l.text l.counter l.mark
