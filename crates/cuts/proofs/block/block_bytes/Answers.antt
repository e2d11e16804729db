-- `cuts::block::block_bytes` meets its contract.
use borrow.Author.Rules.{rules}
use Rattle.cuts.proofs.BlockLaws.{block_needs}
use Rattle.cuts.proofs.block.block_bytes.Goals as goal

pub overflow_add-result : goal.overflow_add-result
overflow_add-result c = search (rules, block_needs)

pub overflow_add-result-2 : goal.overflow_add-result-2
overflow_add-result-2 c = search (rules, block_needs)

pub returns : goal.returns
returns c = search (rules, block_needs)
