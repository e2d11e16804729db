-- `pack::block::write_blocks` meets its contract. The invariant: the blocks of the first cuts are written.
use native.Mathlib.Omega.{arith}
use Rattle.pack.proofs.WritingLaws.{write_length}
use Rattle.pack.proofs.BlockLaws.{blocks_begin, blocks_end, block_room, block_asks, blocks_next}
use Rattle.pack.proofs.block.write_blocks.Goals as goal

pub loop-cut-init : goal.loop-cut-init
loop-cut-init c = blocks_begin c.requires

pub write_block-at-requires : goal.write_block-at-requires
write_block-at-requires c = block_asks c.requires c.loop-cut.invariant c.loop-cut-test.true c.from-count.ensures

pub overflow_add-at : goal.overflow_add-at
overflow_add-at c =
    omega (
      arith,
      c.write_block-at.ensures.answer_is,
      block_room c.loop-cut.invariant c.loop-cut-test.true c.from-count.ensures,
      write_length c.loop-cut.invariant.writing,
    )

pub loop-cut-preserved : goal.loop-cut-preserved
loop-cut-preserved c = blocks_next c.loop-cut.invariant c.loop-cut-test.true c.from-count.ensures c.write_block-at.ensures

pub returns : goal.returns
returns c = blocks_end c.loop-cut.invariant c.loop-cut-test.false
