-- `cuts::cut_list::write_cuts` meets its contract. The invariant: the first i runs have been passed.
use Prim.Native.Nat.{◌≤◌}
use lib.ListN.{length}
use Rattle.cuts.specs.Walk.{Written}
use Rattle.cuts.proofs.cut_list.write_cuts.Given as goal

abbrev pub invariant-loop-i : goal.invariant-loop-i
invariant-loop-i l = (l.i ≤ length l.firsts) × Written l.runs l.firsts l.initial.cuts l.i l.walk l.cuts
