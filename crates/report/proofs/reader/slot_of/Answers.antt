use borrow.Author.Tests.{le-leb, lt-leb, lt-ltb, le-ltb}
use native.Mathlib.Omega.{arith}
use Rattle.report.specs.Inner.{slot_of}
use Rattle.report.proofs.reader.slot_of.Goals as goal
use Rattle.report.proofs.reader.slot_of.Goals.{else-first-k-via-then-first-k+else-k-first, else-first-k-via-else-first-k}

pub returns-then-k-first : goal.returns-then-k-first
unfolding slot_of
returns-then-k-first c = (rw (le-leb _ _ c.if-first-k.true, lt-ltb _ _ c.if-k-first.true), omega arith)

pub returns-else-first-k : goal.returns-else-first-k
unfolding slot_of
returns-else-first-k c =
    elim c.else-first-k.branch [
      | else-first-k-via-then-first-k+else-k-first w ↦ (rw (le-leb _ _ w.if-first-k.true, le-ltb _ _ w.if-k-first.false), omega arith)
      | else-first-k-via-else-first-k w ↦ (rw (lt-leb _ _ w.if-first-k.false), omega arith)
    ]
