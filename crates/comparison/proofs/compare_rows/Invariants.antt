-- `comparison::compare_rows` meets its contract.
use Rattle.comparison.proofs.ComparisonLaws.{Left}
use Rattle.comparison.proofs.compare_rows.Given as goal

abbrev pub invariant-loop-row : goal.invariant-loop-row
invariant-loop-row l = Left l.first l.second l.row
