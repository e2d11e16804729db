-- `cuts::block::head_of` meets its contract.
use borrow.Author.Rules.{rules}
use Rattle.cuts.proofs.BlockLaws.{head_needs}
use Rattle.cuts.proofs.block.head_of.Goals as goal

pub overflow_add-result : goal.overflow_add-result
overflow_add-result c = search (rules, head_needs)

pub overflow_add-result-2 : goal.overflow_add-result-2
overflow_add-result-2 c = search (rules, head_needs)
