-- `cuts::search::fill_run` meets its contract.
use Rattle.std.proofs.Common.{rules}
use Rattle.cuts.proofs.FillLaws.{fill_needs}
use Rattle.cuts.proofs.search.fill_run.Goals as goal

pub invariant_of-ahead : goal.invariant_of-ahead
invariant_of-ahead c = search (rules, fill_needs)

pub first_block-found-requires : goal.first_block-found-requires
first_block-found-requires c = search (rules, fill_needs)

pub returns : goal.returns
returns c = search (rules, fill_needs)
