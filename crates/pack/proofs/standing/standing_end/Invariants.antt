-- `pack::standing::standing_end` meets its contract. The invariant: the first k fields stand from the start up to `at`.
use mathlib.Core.List.{[]}
use lib.ListN.{drop, get_or}
use Rattle.layout.specs.Written.{values_at}
use Rattle.pack.specs.Inner.{observed, row_line}
use Rattle.pack.proofs.FieldLaws.{line_left}
use Rattle.pack.proofs.StandingLaws.{Standing}
use Rattle.pack.proofs.standing.standing_end.Given as goal

abbrev pub invariant-loop-k : goal.invariant-loop-k
invariant-loop-k l = Standing l.report l.start (row_line l.report l.columns l.row) l.at l.k (line_left (drop l.k (values_at l.columns (get_or (observed l.report) l.row []))))
