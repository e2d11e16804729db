-- `comparison::first_differing` meets its contract.
use Rattle.report.specs.Index.{noted_value}
use Rattle.comparison.proofs.ComparisonLaws.{Undecided}
use Rattle.comparison.proofs.first_differing.Given as goal

abbrev pub invariant-loop-element : goal.invariant-loop-element
invariant-loop-element l =
    Undecided (noted_value l.first l.rows l.row) (noted_value l.second l.second_rows l.row) l.element
