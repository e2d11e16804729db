-- `value::covariance::in_parts` meets its contract. The invariant: the parts so far, and what is left put after them, make the number of the text.
use Rattle.value.proofs.Scaled.{InParts}
use Rattle.value.proofs.covariance.in_parts.Given as goal

abbrev pub invariant-loop-byte : goal.invariant-loop-byte
invariant-loop-byte l = InParts l.text l.high l.low l.byte-index
