-- `inspect::blocks::fill_rows` meets its contract.
use Rattle.inspect.proofs.BlockLaws.{Filling}
use Rattle.inspect.proofs.blocks.fill_rows.Given as goal

abbrev pub invariant-loop-k : goal.invariant-loop-k
invariant-loop-k l = Filling l.text l.initial.rows l.rows l.start l.k
