use Rattle.std.proofs.Common.{length, ◌≤◌, ◌≡◌}
use Rattle.files.proofs.reading.read_open.Given as goal

-- What is left of the space lies within it.
abbrev pub invariant-loop-file : goal.invariant-loop-file
invariant-loop-file g l = (l.room ≡ length l.fn.space) × (length l.left ≤ l.room)

abbrev pub decreases-loop-file : goal.decreases-loop-file
decreases-loop-file g l = length l.left
