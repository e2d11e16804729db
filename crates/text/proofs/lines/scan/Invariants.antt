-- `text::lines::scan` meets its contract. The bytes passed are printable.
use lib.ListN.{length}
use Rattle.text.proofs.LineLaws.{Stepping}
use Rattle.text.proofs.lines.scan.Given as goal

abbrev pub invariant-loop-step : goal.invariant-loop-step
invariant-loop-step l = Stepping l.text l.left l.fields

abbrev pub decreases-loop-step : goal.decreases-loop-step
decreases-loop-step l = length l.left
