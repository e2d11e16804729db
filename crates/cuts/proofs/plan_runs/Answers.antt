-- `cuts::plan_runs` meets its contract.
use Rattle.std.proofs.Common.{rules}
use Rattle.cuts.proofs.PlanLaws.{planned_runs}
use Rattle.cuts.proofs.plan_runs.Goals as goal

pub returns : goal.returns
returns c = search (rules, planned_runs)
