-- `cuts::cut_list::walk_run` meets its contract.
use Rattle.std.proofs.Common.{rules}
use Rattle.cuts.proofs.WalkLaws.{walk_needs}
use Rattle.cuts.proofs.cut_list.walk_run.Goals as goal

pub rows_of-requires : goal.rows_of-requires
rows_of-requires c = search (rules, walk_needs)

pub returns-then-walk-eq0 : goal.returns-then-walk-eq0
returns-then-walk-eq0 c = search (rules, walk_needs)

pub returns-else-walk-eq0 : goal.returns-else-walk-eq0
returns-else-walk-eq0 c = search (rules, walk_needs)
