-- `cuts::stretches::plan_stretches` meets its contract. The invariant: the rows before `at` are cut, in whole stretches.
use Prim.Native.Nat.{◌-◌}
use lib.ListN.{length}
use Rattle.cuts.proofs.StretchLaws.{Begun}
use Rattle.cuts.proofs.stretches.plan_stretches.Given as goal

abbrev pub invariant-loop-at : goal.invariant-loop-at
invariant-loop-at l = Begun l.marks l.sets l.sizes l.initial.cuts l.at l.blocks l.bytes l.cuts

abbrev pub decreases-loop-at : goal.decreases-loop-at
decreases-loop-at l = length l.sets - l.at
