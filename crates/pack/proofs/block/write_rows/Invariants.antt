-- `pack::block::write_rows` meets its contract. The invariant: the rows before this one are written.
use Prim.Native.Nat.{◌+◌, ◌-◌}
use Rattle.layout.specs.Written.{data_lines}
use Rattle.pack.specs.Inner.{rows_from}
use Rattle.pack.proofs.WritingLaws.{Writing}
use Rattle.pack.proofs.block.write_rows.Given as goal

abbrev pub invariant-loop-row : goal.invariant-loop-row
invariant-loop-row l =
    Writing (data_lines l.columns (rows_from l.report l.first l.count)) l.initial.output l.output l.at
    (data_lines l.columns (rows_from l.report l.row (l.first + l.count - l.row)))
