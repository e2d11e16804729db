-- `cuts::ends::look_further` meets its contract.
use Rattle.std.proofs.Common.{rules}
use Rattle.cuts.proofs.LookLaws.{further_needs}
use Rattle.cuts.proofs.ends.look_further.Goals as goal

pub overflow_add-values : goal.overflow_add-values
overflow_add-values c = search (rules, further_needs)

pub overflow_add-rows : goal.overflow_add-rows
overflow_add-rows c = search (rules, further_needs)

pub block_bytes-requires : goal.block_bytes-requires
block_bytes-requires c = search (rules, further_needs)

pub returns-then-cost-look : goal.returns-then-cost-look
returns-then-cost-look c = search (rules, further_needs)

pub returns-else-cost-look : goal.returns-else-cost-look
returns-else-cost-look c = search (rules, further_needs)
