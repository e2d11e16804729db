-- `pack::plan::plan` meets its contract.
use lib.Seq.{length-take-le}
use mathlib.Core.Path.{sym}
use Rattle.pack.proofs.PlanLaws.{rows_ask, plan_cut}
use Rattle.pack.proofs.plan.plan.Goals as goal

pub slice_bounds-cut_rows-end : goal.slice_bounds-cut_rows-end
slice_bounds-cut_rows-end g c = (rows_ask c.requires c.index.ensures c.index.auto.rows c.in_ok-count.was).0

pub slice_bounds-cut_rows-end-2 : goal.slice_bounds-cut_rows-end-2
slice_bounds-cut_rows-end-2 g c = sym (length-take-le _ _ (rows_ask c.requires c.index.ensures c.index.auto.rows c.in_ok-count.was).0)

pub cut_rows-requires : goal.cut_rows-requires
cut_rows-requires g c = ((rows_ask c.requires c.index.ensures c.index.auto.rows c.in_ok-count.was).1, c.requires.most_few)

pub returns : goal.returns
returns g c = plan_cut c.requires c.index.ensures c.index.auto.rows c.in_ok-count.was c.cut_rows.ensures
