-- `pack::block::write_block` meets its contract.
use native.Mathlib.Omega.{arith}
use Rattle.pack.proofs.BlockLaws.{version_room, names_ask, names_inside, lines_ask, lines_inside, block_written}
use Rattle.pack.proofs.block.write_block.Goals as goal

pub write_version-named-requires : goal.write_version-named-requires
write_version-named-requires c = version_room c.requires

pub slice_bounds-write_names-count : goal.slice_bounds-write_names-count
slice_bounds-write_names-count c =
    omega (arith, names_inside c.requires c.join.ensures c.list_columns-columns.ensures c.write_version-named.ensures)

pub slice_bounds-write_names-start : goal.slice_bounds-write_names-start
slice_bounds-write_names-start c =
    omega (arith, names_inside c.requires c.join.ensures c.list_columns-columns.ensures c.write_version-named.ensures)

pub write_names-requires : goal.write_names-requires
write_names-requires c = names_ask c.requires c.join.ensures c.list_columns-columns.ensures c.write_version-named.ensures

pub overflow_add-lines : goal.overflow_add-lines
overflow_add-lines c =
    omega (arith, c.write_names.ensures.answer_is, names_inside c.requires c.join.ensures c.list_columns-columns.ensures c.write_version-named.ensures)

pub slice_bounds-write_rows-count : goal.slice_bounds-write_rows-count
slice_bounds-write_rows-count c =
    omega (arith, lines_inside c.requires c.join.ensures c.list_columns-columns.ensures c.write_version-named.ensures c.write_names.ensures)

pub slice_bounds-write_rows-start : goal.slice_bounds-write_rows-start
slice_bounds-write_rows-start c =
    omega (arith, lines_inside c.requires c.join.ensures c.list_columns-columns.ensures c.write_version-named.ensures c.write_names.ensures)

pub write_rows-written-requires : goal.write_rows-written-requires
write_rows-written-requires c =
    lines_ask c.requires c.join.ensures c.list_columns-columns.ensures c.write_version-named.ensures c.write_names.ensures

pub overflow_add-result : goal.overflow_add-result
overflow_add-result c =
    omega (arith, c.write_rows-written.ensures.answer_is, lines_inside c.requires c.join.ensures c.list_columns-columns.ensures c.write_version-named.ensures c.write_names.ensures)

pub returns : goal.returns
returns c =
    block_written c.requires c.join.ensures c.list_columns-columns.ensures c.write_version-named.ensures c.write_names.ensures c.write_rows-written.ensures
