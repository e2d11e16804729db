use mathlib.Core.Path.{◌≡◌, sym, ◌∙◌}
use Rattle.std.proofs.lemmas.Bool.{not-true, not-false}
use Rattle.std.proofs.lemmas.Result.{err_from_is_err_and}
use Rattle.report.specs.Report.{is_hash}
use Rattle.report.specs.Inner.{between}
use Rattle.report.proofs.LineSteps.{hash_is, line_byte, line_hash, line_open, line_closed, line_other}
use Rattle.report.proofs.line.take_line.Goals as goal
use Rattle.report.proofs.line.take_line.Goals.{After-starts_with}

-- Whether the line starts with `#`.
hash : (c : After-starts_with) → c.starts_with.result ≡ is_hash (between c.args.report.now c.args.line.from c.args.line.till)
hash c = c.starts_with.ensures.value ∙ hash_is (between c.args.report.now c.args.line.from c.args.line.till)

pub returns-then-not-line : goal.returns-then-not-line
returns-then-not-line c = line_byte c.args.state (sym (not-true _ c.if-not-line.true) ∙ c.requires.1)

pub returns-then-not-starts_with : goal.returns-then-not-starts_with
returns-then-not-starts_with c =
    line_other c.args.state (sym (not-false _ c.if-not-line.false) ∙ c.requires.1) (sym c.if-not-starts_with.true ∙ hash (goal.at.returns-then-not-starts_with c).After-starts_with) c.take_other.ensures

pub returns-then-not-same : goal.returns-then-not-same
returns-then-not-same c =
    line_hash c.args.state (sym (not-false _ c.if-not-line.false) ∙ c.requires.1) (sym c.if-not-starts_with.false ∙ hash (goal.at.returns-then-not-same c).After-starts_with) (sym c.if-not-same.true ∙ c.same.ensures)

pub returns-in_err-opened : goal.returns-in_err-opened
returns-in_err-opened c =
    let printable = sym (not-false _ c.if-not-line.false) ∙ c.requires.1 in
    let start = sym c.if-not-starts_with.false ∙ hash (goal.at.returns-in_err-opened c).After-starts_with in
    let p = err_from_is_err_and c.from_residual.result c.from_residual.ensures.1 in
    rw (p.1, p.2) (line_closed c.args.state printable start (sym c.if-not-same.false ∙ c.same.ensures) c.opened.ensures c.in_err-opened.was)

pub returns : goal.returns
returns c =
    let printable = sym (not-false _ c.if-not-line.false) ∙ c.requires.1 in
    let start = sym c.if-not-starts_with.false ∙ hash (goal.at.returns c).After-starts_with in
    rw c.none.ensures (line_open c.args.state printable start (sym c.if-not-same.false ∙ c.same.ensures) c.opened.ensures c.in_ok-opened.was)
