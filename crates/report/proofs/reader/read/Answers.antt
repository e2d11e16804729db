use mathlib.Core.Path.{ap, refl}
use native.Mathlib.Omega.{arith}
use Rattle.std.proofs.Common.{Err}
use Rattle.std.proofs.lemmas.Result.{err_from_is_err_and}
use Rattle.report.specs.Inner.{NextLine}
use Rattle.report.proofs.ReaderLaws.{begun, read_start, read_long, read_ends, read_cut, line_asks, read_bad, read_next, read_row, line_of, end_of, cut_of}
use Rattle.report.proofs.reader.read.Goals as goal
use Rattle.report.proofs.reader.read.Goals.{In-Some}

-- The line that is read next.
line : (c : In-Some) → NextLine c.args.report.now c.loop-line.place.at c.loop-line.place.number c.in-Some.line c.next.new.self.at c.next.new.self.number
line c = line_of c.next.ensures c.in_ok-line.was c.in-Some.is

pub returns-then-report-gt-TEXT_LIMIT : goal.returns-then-report-gt-TEXT_LIMIT
returns-then-report-gt-TEXT_LIMIT c = read_long c.if-report-gt-TEXT_LIMIT.true (ap Err c.of_request.ensures)

pub loop-line-init : goal.loop-line-init
loop-line-init c = rw (begun c.default-state.result c.default-state.ensures, c.none-columns.ensures) (read_start c.if-report-gt-TEXT_LIMIT.false c.requires)

pub returns-in_err-line : goal.returns-in_err-line
returns-in_err-line c =
    let p = err_from_is_err_and c.from_residual.result c.from_residual.ensures.1 in
    let cut = cut_of c.next.ensures c.in_err-line.was in
    rw (p.1, p.2) (read_cut c.loop-line.invariant cut.0 cut.1 cut.2)

pub take_line-requires : goal.take_line-requires
take_line-requires c = line_asks c.loop-line.invariant (line (goal.at.take_line-requires c).In-Some)

pub returns-in-Err : goal.returns-in-Err
returns-in-Err c = read_bad c.loop-line.invariant (line (goal.at.returns-in-Err c).In-Some) c.take_line.ensures c.in-Err.is c.on_line.ensures

pub loop-line-smaller-in-Next : goal.loop-line-smaller-in-Next
loop-line-smaller-in-Next c =
    let l = line (goal.at.loop-line-smaller-in-Next c).In-Some in
    omega (arith, l.order, l.ended, l.at_is)

pub loop-line-preserved-in-Next : goal.loop-line-preserved-in-Next
loop-line-preserved-in-Next c =
    let taken = c.take_line in
    read_next c.loop-line.invariant (line (goal.at.loop-line-preserved-in-Next c).In-Some) taken.ensures
    c.slot_of-slot.ensures refl c.in-Ok.is c.in-Next.is

pub loop-line-smaller : goal.loop-line-smaller
loop-line-smaller c =
    let l = line (goal.at.loop-line-smaller c).In-Some in
    omega (arith, l.order, l.ended, l.at_is)

pub loop-line-preserved : goal.loop-line-preserved
loop-line-preserved c =
    let taken = c.take_line in
    read_row c.loop-line.invariant (line (goal.at.loop-line-preserved c).In-Some) taken.ensures
    c.slot_of-slot.ensures refl c.in-Ok.is c.in-Noted.is

pub returns : goal.returns
returns c =
    let end = end_of c.next.ensures c.in_ok-line.was c.in_default.is in
    read_ends c.loop-line.invariant end.0 (rw end.2 at c.at_end.ensures)
