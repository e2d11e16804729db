-- `pack::line::write_names` meets its contract. The invariant: the first k names are written.
use lib.ListN.{drop}
use Rattle.layout.specs.Written.{line_of, names_at}
use Rattle.pack.proofs.WritingLaws.{Writing}
use Rattle.pack.proofs.FieldLaws.{line_left}
use Rattle.pack.proofs.line.write_names.Given as goal

abbrev pub invariant-loop-k : goal.invariant-loop-k
invariant-loop-k l = Writing (line_of (names_at l.columns)) l.initial.output l.output l.at (line_left (drop l.k (names_at l.columns)))
