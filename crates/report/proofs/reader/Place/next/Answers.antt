use native.Mathlib.Omega.{arith}
use Rattle.report.proofs.ReaderLaws.{next_fits, next_cut, next_some}
use Rattle.report.proofs.reader.Place.next.Goals as goal

pub overflow_add-till : goal.overflow_add-till
overflow_add-till c = omega (arith, next_fits c.args.report.now c.if-report-from.false c.scan-scanned.ensures, c.requires)

pub overflow_add-self : goal.overflow_add-self
overflow_add-self c = omega (arith, next_fits c.args.report.now c.if-report-from.false c.scan-scanned.ensures, c.requires)

pub returns-then-till-report : goal.returns-then-till-report
returns-then-till-report c = next_cut c.args.report.now c.if-report-from.false c.scan-scanned.ensures c.if-till-report.true

pub returns : goal.returns
returns c = next_some c.args.report.now c.if-report-from.false c.scan-scanned.ensures c.if-till-report.false
