-- `cuts::runs::run_count` meets its contract. The invariant: the runs up to the last set that was gone through are counted.
use Rattle.std.proofs.Common.{◌≡◌, ◌+◌, ◌≤◌, drop}
use Rattle.cuts.specs.Runs.{changes}
use Rattle.cuts.proofs.runs.run_count.Given as goal

abbrev pub invariant-loop-set : goal.invariant-loop-set
invariant-loop-set l = (l.n ≤ 1 + l.set-index) × (l.n + changes l.before (drop l.set-index l.rest) ≡ 1 + changes l.initial.before l.rest)
