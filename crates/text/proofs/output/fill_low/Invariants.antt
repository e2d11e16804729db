-- `text::output::fill_low` meets its contract. The bytes before the loop's place are those of the number, and those from there on those of what is left of it.
use lib.ListN.{length}
use Rattle.text.proofs.Outputs.{Lowering}
use Rattle.text.proofs.output.fill_low.Given as goal

abbrev pub invariant-loop-byte : goal.invariant-loop-byte
invariant-loop-byte l = Lowering l.number (length l.initial.byte-items) l.byte-items l.rest l.byte-index
