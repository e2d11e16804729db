-- `pack::block::write_rows` meets its contract. The invariant: the rows before this one are written.
use native.Mathlib.Omega.{arith}
use Rattle.pack.proofs.WritingLaws.{write_length, write_next}
use Rattle.pack.proofs.BlockLaws.{rows_begin, rows_turn, row_asks, row_room, rows_end}
use Rattle.pack.proofs.block.write_rows.Goals as goal

pub loop-row-init : goal.loop-row-init
loop-row-init c = rows_begin c.requires

pub write_line-at-requires : goal.write_line-at-requires
write_line-at-requires c = row_asks c.requires c.loop-row-test.true c.loop-row.invariant

pub overflow_add-at : goal.overflow_add-at
overflow_add-at c =
    omega
    (arith, c.write_line-at.ensures.answer_is, row_room c.requires c.loop-row-test.true c.loop-row.invariant, write_length c.loop-row.invariant)

pub loop-row-preserved : goal.loop-row-preserved
loop-row-preserved c = write_next _ _ (rows_turn c.requires c.loop-row-test.true c.loop-row.invariant) c.write_line-at.ensures

pub returns : goal.returns
returns c = rows_end c.requires c.loop-row-test.false c.loop-row.invariant
