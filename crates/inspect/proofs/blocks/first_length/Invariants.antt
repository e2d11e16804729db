-- `inspect::blocks::first_length` meets its contract.
use Prim.Native.Nat.{◌+◌}
use lib.ListN.{drop}
use mathlib.Core.Path.{◌≡◌}
use Rattle.inspect.specs.Blocks.{block_length}
use Rattle.inspect.proofs.blocks.first_length.Given as goal

abbrev pub invariant-loop-i : goal.invariant-loop-i
invariant-loop-i l = block_length l.text ≡ l.i + block_length (drop l.i l.text)
