-- `cuts::plan_rows` meets its contract.
use Rattle.std.proofs.Common.{rules}
use Rattle.cuts.proofs.RunsWanted.{rows_plan_needs}
use Rattle.cuts.proofs.plan_rows.Goals as goal

pub plan_runs-requires : goal.plan_runs-requires
plan_runs-requires c = search (rules, rows_plan_needs)

pub returns : goal.returns
returns c = search (rules, rows_plan_needs)
