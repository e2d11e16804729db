-- `cuts::stretches::plan_stretches` meets its contract. The invariant: the rows before `at` are cut, in whole stretches.
use borrow.Author.Rules.{rules}
use native.Mathlib.Omega.{arith}
use Prim.Native.Nat.{ℕ, ◌^◌, ◌<◌}
use lib.ListN.{get_or}
use Rattle.cuts.proofs.StretchLaws.{stretch_needs, bytes_fit}
use Rattle.cuts.proofs.stretches.plan_stretches.Goals as goal
use Rattle.cuts.proofs.stretches.plan_stretches.Goals.{After-plan_ready-plan}

-- The sets are numbers of the machine.
sets-low : (c : After-plan_ready-plan) (k : ℕ) → get_or c.args.sets.now k 0 < 2 ^ 64
sets-low c k = omega (arith, c.shared_slice_known-2-1.given k)

pub plan_ready-plan-requires : goal.plan_ready-plan-requires
plan_ready-plan-requires c = search (rules, stretch_needs)

pub loop-at-preserved : goal.loop-at-preserved
loop-at-preserved c = search (rules, stretch_needs, sets-low (goal.at.loop-at-preserved c).After-plan_ready-plan)

pub returns : goal.returns
returns c = search (rules, stretch_needs)

pub overflow_add-bytes : goal.overflow_add-bytes
overflow_add-bytes c =
    let planned = c in
    let ends = planned.stretch_end-end.ensures in
    let begun = planned.loop-at.invariant in
    bytes_fit _ _ _ _ _ _ _ _ _ planned.requires.0 planned.requires.1 begun ends (sets-low (goal.at.overflow_add-bytes c).After-plan_ready-plan) _ _ planned.plan_ready-plan.ensures
