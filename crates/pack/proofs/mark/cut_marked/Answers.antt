-- `pack::mark::cut_marked` meets its contract.
use Rattle.pack.proofs.PlanLaws.{rows_cut}
use Rattle.pack.proofs.mark.cut_marked.Goals as goal

pub returns : goal.returns
returns c = rows_cut c.requires.2 c.fill_marks.ensures c.fill_sets.ensures c.fill_sizes.ensures c.shortest.ensures
