-- `cuts::search::fill_all` meets its contract. The invariant: the costs and the first blocks are filled in from the run i on, whose tail is known.
use Prim.Native.Nat.{◌≤◌, ◌+◌}
use mathlib.Core.Path.{◌≡◌}
use lib.ListN.{length, drop}
use Rattle.cuts.specs.Block.{all_more}
use Rattle.cuts.specs.Look.{Filled, TailOf}
use Rattle.cuts.proofs.search.fill_all.Given as goal

abbrev pub invariant-loop-i : goal.invariant-loop-i
invariant-loop-i l = (l.n ≡ length l.runs) × (l.i ≤ length l.runs) × Filled all_more l.runs l.i l.costs l.firsts × TailOf (drop l.i l.runs) (drop (l.i + 1) l.costs) l.tail
