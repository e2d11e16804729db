-- `pack::block::write_blocks` meets its contract. The invariant: the blocks of the first cuts are written.
use Rattle.pack.specs.Inner.{observed}
use Rattle.pack.proofs.BlockLaws.{Blocks}
use Rattle.pack.proofs.block.write_blocks.Given as goal

abbrev pub invariant-loop-cut : goal.invariant-loop-cut
invariant-loop-cut l = Blocks l.cuts (observed l.report) l.initial.output l.output l.at l.first l.cut-index
