-- `cuts::plan_ready` meets its contract.
use native.Mathlib.Omega.{arith}
use mathlib.Core.Path.{refl}
use Rattle.cuts.proofs.PressLaws.{press_count}
use Rattle.cuts.proofs.plan_ready.Goals as goal

pub plan_within-requires-then-count-le-MANY_RUNS : goal.plan_within-requires-then-count-le-MANY_RUNS
plan_within-requires-then-count-le-MANY_RUNS c =
    (omega arith, refl, c.requires, omega (arith, c.run_count-count.ensures, press_count c.args.sets.now c.args.sizes.now c.requires.same))
