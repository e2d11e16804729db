use Rattle.std.proofs.lemmas.Result.{err_from_is_err_and}
use Rattle.report.proofs.RowLaws.{row_refused, row_many, row_count, wrong_of, row_fields, good_of, row_held}
use Rattle.report.proofs.row.data_line.Goals as goal

pub returns-then-k-ge-ROW_LIMIT : goal.returns-then-k-ge-ROW_LIMIT
returns-then-k-ge-ROW_LIMIT c = row_refused (row_many _ _ _ c.if-k-ge-ROW_LIMIT.true)

pub returns-then-line-as_slice : goal.returns-then-line-as_slice
returns-then-line-as_slice c = row_refused (row_count _ c.requires c.if-k-ge-ROW_LIMIT.false (rw c.as_slice.ensures.0 at c.if-line-as_slice.true))

pub returns-in_err-marks : goal.returns-in_err-marks
returns-in_err-marks c =
    let pre = c.requires in
    let if1 = c.if-k-ge-ROW_LIMIT in
    let same = rw c.as_slice.ensures.0 at c.if-line-as_slice.false in
    let p = err_from_is_err_and c.from_residual.result c.from_residual.ensures.1 in
    rw (p.1, p.2) (row_refused (row_fields _ pre if1.false same (wrong_of c.take_fields.ensures c.in_err-marks.was)))

pub returns : goal.returns
returns c =
    let pre = c.requires in
    let if1 = c.if-k-ge-ROW_LIMIT in
    let same = rw c.as_slice.ensures.0 at c.if-line-as_slice.false in
    row_held _ pre if1.false same (good_of c.take_fields.ensures c.in_ok-marks.was) _ c.held.ensures
