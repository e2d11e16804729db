use Rattle.std.proofs.Common.{length}
use Rattle.sheet.proofs.costing.cost_by_change.Given as goal

abbrev pub decreases-loop-rest : goal.decreases-loop-rest
decreases-loop-rest l = length l.rest.sets.now
