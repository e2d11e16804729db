use Rattle.report.proofs.ColumnLaws.{Naming}
use Rattle.report.proofs.columns.name_columns.Given as goal

abbrev pub invariant-loop-k : goal.invariant-loop-k
invariant-loop-k l = Naming l.line l.columns l.fields l.from l.k
