-- `pack::line::write_row` meets its contract. The invariant: the first k values are written.
use mathlib.Core.Path.{◌≡◌, ◌∙◌}
use lib.ListN.{get_or}
use Rattle.pack.specs.Inner.{value_in}
use Rattle.pack.proofs.IndexLaws.{value_is}
use Rattle.pack.proofs.WritingLaws.{write_next}
use Rattle.pack.proofs.FieldLaws.{line_begin, line_turn, line_fits, line_end}
use Rattle.pack.proofs.line.write_row.Goals as goal
use Rattle.pack.proofs.line.write_row.Goals.{After-value_of-value}

-- The value that was read off the index is the row's.
value_read : (c : After-value_of-value)
    → c.value_of-value.result.now
    ≡ value_in c.args.report.now c.args.row (get_or c.args.columns.now c.loop-k.k 0)
value_read c =
    let pre = c.requires in
    let k = c.loop-k.k in
    c.value_of-value.ensures
    ∙ value_is c.args.row (get_or c.args.columns.now k 0) pre.indexed pre.inside (pre.columns_are.known k c.loop-k-test.true)

pub loop-k-init : goal.loop-k-init
loop-k-init c = line_begin (value_in c.args.report.now c.args.row) c.args.columns.now c.requires.columns_are.some c.requires.room

pub write_field-at-requires : goal.write_field-at-requires
write_field-at-requires c =
    let read = value_read (goal.at.write_field-at-requires c).After-value_of-value in
    rw read (line_fits (value_in c.args.report.now c.args.row) c.args.columns.now c.loop-k-test.true c.loop-k.invariant)

pub loop-k-preserved : goal.loop-k-preserved
loop-k-preserved c =
    let read = value_read (goal.at.loop-k-preserved c).After-value_of-value in
    write_next _ _
    (line_turn (value_in c.args.report.now c.args.row) c.args.columns.now c.loop-k-test.true c.end_of-end.ensures c.loop-k.invariant)
    (rw read at c.write_field-at.ensures)

pub returns : goal.returns
returns c = line_end (value_in c.args.report.now c.args.row) c.args.columns.now c.loop-k-test.false c.loop-k.invariant
