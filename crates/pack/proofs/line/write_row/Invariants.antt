-- `pack::line::write_row` meets its contract. The invariant: the first k values are written.
use mathlib.Core.List.{[]}
use lib.ListN.{drop, get_or}
use Rattle.layout.specs.Written.{values_at}
use Rattle.pack.specs.Inner.{observed, row_line}
use Rattle.pack.proofs.WritingLaws.{Writing}
use Rattle.pack.proofs.FieldLaws.{line_left}
use Rattle.pack.proofs.line.write_row.Given as goal

abbrev pub invariant-loop-k : goal.invariant-loop-k
invariant-loop-k l = Writing (row_line l.report l.columns l.row) l.initial.output l.output l.at (line_left (drop l.k (values_at l.columns (get_or (observed l.report) l.row []))))
