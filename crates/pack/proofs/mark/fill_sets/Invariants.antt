-- `pack::mark::fill_sets` meets its contract. The invariant: the first i rows have their sets.
use Rattle.std.proofs.Common.{◌≡◌, ℕ, ◌<◌, get_or}
use Rattle.report.specs.Index.{row_at}
use Rattle.pack.proofs.mark.fill_sets.Given as goal

abbrev pub invariant-loop-i : goal.invariant-loop-i
invariant-loop-i l = (k : ℕ) → k < l.i → get_or l.sets k 0 ≡ (row_at l.rows k).present
