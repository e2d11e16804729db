use Rattle.report.proofs.RowLaws.{Filling}
use Rattle.report.proofs.row.take_fields.Given as goal

abbrev pub invariant-loop-k : goal.invariant-loop-k
invariant-loop-k l = Filling l.report l.columns l.row l.line.from l.line.till l.at l.k l.marks
