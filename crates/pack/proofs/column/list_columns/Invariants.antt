-- `pack::column::list_columns` meets its contract. The invariant: of the first k of the column order, those in the set are listed.
use Rattle.pack.proofs.ColumnLaws.{Listing}
use Rattle.pack.proofs.column.list_columns.Given as goal

abbrev pub invariant-loop-place : goal.invariant-loop-place
invariant-loop-place l = Listing l.set l.columns l.n l.place-index
