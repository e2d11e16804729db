-- `inspect::line::columns_before` meets its contract.
use Rattle.inspect.proofs.LineLaws.{ColumnsAt}
use Rattle.inspect.proofs.line.columns_before.Given as goal

abbrev pub invariant-loop : goal.invariant-loop
invariant-loop l = ColumnsAt l.text l.counter l.from l.columns
