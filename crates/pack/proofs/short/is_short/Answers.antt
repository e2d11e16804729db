-- `pack::short::is_short` meets its contract.
use borrow.Author.Tests.{le-leb, lt-leb}
use Rattle.pack.specs.Inner.{is_short}
use Rattle.pack.proofs.short.is_short.Goals as goal

pub returns-then-report-le-SHORT_TEXT : goal.returns-then-report-le-SHORT_TEXT
unfolding is_short
returns-then-report-le-SHORT_TEXT c = rw (le-leb _ _ c.if-report-le-SHORT_TEXT.true, c.from.ensures, c.line_count.ensures)

pub returns-else-report-le-SHORT_TEXT : goal.returns-else-report-le-SHORT_TEXT
unfolding is_short
returns-else-report-le-SHORT_TEXT c = rw (lt-leb _ _ c.if-report-le-SHORT_TEXT.false)
