-- `inspect::blocks::start` meets its contract.
use Prim.Native.Nat.{◌≤◌}
use lib.ListN.{length}
use mathlib.Core.Path.{◌≡◌}
use Rattle.inspect.specs.Blocks.{block_start}
use Rattle.inspect.proofs.blocks.start.Given as goal

abbrev pub invariant-loop : goal.invariant-loop
invariant-loop l = (l.at ≡ block_start l.text l.counter) × (l.at ≤ length l.text)
