use Rattle.std.proofs.lemmas.Result.{err_from_is_err_and}
use Rattle.report.proofs.LineSteps.{line_columns, line_unnamed, line_row, line_no_row, line_bad, due_version, due_rows}
use Rattle.report.proofs.line.take_other.Goals as goal

pub returns-in-Version : goal.returns-in-Version
returns-in-Version c = line_bad (due_version _ _ _ _ c.in-Version.is)

pub returns-in_ok-columns-in-Columns : goal.returns-in_ok-columns-in-Columns
returns-in_ok-columns-in-Columns c = line_columns c.args.state c.in-Columns.is c.name_columns.ensures c.in_ok-columns-in-Columns.was

pub returns-in_err-columns-in-Columns : goal.returns-in_err-columns-in-Columns
returns-in_err-columns-in-Columns c =
    let p = err_from_is_err_and c.from_residual.result c.from_residual.ensures.1 in
    rw (p.1, p.2) (line_unnamed c.args.state c.in-Columns.is c.name_columns.ensures c.in_err-columns-in-Columns.was)

pub returns-in_ok-radar-in-Row : goal.returns-in_ok-radar-in-Row
returns-in_ok-radar-in-Row c = line_row (due_rows _ _ _ _ c.in-Row.is c.rows.ensures) c.data_line.ensures c.in_ok-radar-in-Row.was

pub returns-in_err-radar-in-Row : goal.returns-in_err-radar-in-Row
returns-in_err-radar-in-Row c =
    let residual = c.from_residual-in_err-radar-in-Row in
    let p = err_from_is_err_and residual.result residual.ensures.1 in
    rw (p.1, p.2) (line_no_row (due_rows _ _ _ _ c.in-Row.is c.rows.ensures) c.data_line.ensures c.in_err-radar-in-Row.was)
