-- `text::digits::number_of` meets its contract. The invariant: what is left, put after the number so far, makes the number of the text; it has no more digits than bytes passed.
use Prim.Native.Nat.{◌<◌, ◌^◌, ◌≤◌}
use lib.ListN.{drop, length}
use mathlib.Core.Path.{◌≡◌}
use Rattle.text.specs.Digits.{number}
use Rattle.text.proofs.digits.number_of.Given as goal

abbrev pub invariant-loop-byte : goal.invariant-loop-byte
invariant-loop-byte l = (l.byte-index ≤ length l.text) × (l.n < 10 ^ l.byte-index) × (number 0 l.text ≡ number l.n (drop l.byte-index l.text))
