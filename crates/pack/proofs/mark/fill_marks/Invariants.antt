-- `pack::mark::fill_marks` meets its contract. The invariant: the first i rows have their marks.
use Rattle.std.proofs.Common.{◌≡◌, ℕ, ◌<◌, get_or}
use Rattle.report.specs.Index.{row_at}
use Rattle.pack.specs.Inner.{mark_in}
use Rattle.pack.proofs.mark.fill_marks.Given as goal

abbrev pub invariant-loop-i : goal.invariant-loop-i
invariant-loop-i l = (k : ℕ) → k < l.i → get_or l.marks k 0 ≡ mark_in (row_at l.rows k).present
