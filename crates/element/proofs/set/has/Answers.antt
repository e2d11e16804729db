-- `element::set::has` meets its contract.
use borrow.Author.Tests.{le-ltb}
use mathlib.Core.Path.{sym}
use Rattle.element.proofs.Sets.{has_not}
use Rattle.element.proofs.set.has.Goals as goal

pub returns-else-index-lt64 : goal.returns-else-index-lt64
returns-else-index-lt64 c =
    let past = c.if-index-lt64.false in
    rw (le-ltb _ _ past) (sym (has_not c.args.set c.args.index c.ranges.set.fits past))
