use Rattle.report.specs.Inner.{shown_in}
use mathlib.Core.Path.{◌∙◌, sym}
use Rattle.report.proofs.place.shown_in.Goals as goal

pub returns-then-has : goal.returns-then-has
unfolding shown_in
returns-then-has c = rw (sym c.has.ensures ∙ c.if-has.true, c.from.ensures, c.from-then-has.ensures)

pub returns-else-has : goal.returns-else-has
unfolding shown_in
returns-else-has c = rw (sym c.has.ensures ∙ c.if-has.false)
