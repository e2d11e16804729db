-- `element::name::name_at` meets its contract.
use Rattle.element.proofs.Names.{cut_is, in_all, in_order}
use Rattle.element.proofs.name.name_at.Goals as goal

pub slice_bounds-result-count : goal.slice_bounds-result-count
slice_bounds-result-count c = rw (c.from-from.ensures, c.from-till.ensures) (in_order c.args.index c.requires)

pub slice_bounds-result-start : goal.slice_bounds-result-start
slice_bounds-result-start c = rw (c.from-from.ensures, c.from-till.ensures) (in_order c.args.index c.requires)

pub slice_bounds-result-end : goal.slice_bounds-result-end
slice_bounds-result-end c = rw c.from-till.ensures (in_all c.args.index c.requires)

pub returns : goal.returns
returns c = rw (c.from-from.ensures, c.from-till.ensures) (cut_is c.args.index c.requires)
