-- `cuts::runs::press_rows` meets its contract. The invariant: the rows from i on are pressed into the runs from j on.
use Rattle.std.proofs.Common.{◌≡◌, length}
use Rattle.cuts.specs.Runs.{Pressed}
use Rattle.cuts.proofs.runs.press_rows.Given as goal

abbrev pub invariant-loop-i : goal.invariant-loop-i
invariant-loop-i l = (length l.runs ≡ length l.initial.runs) × Pressed l.sets l.sizes l.i l.runs l.j
