-- `pack::short::line_count` meets its contract. The invariant: the LFs passed and the LFs left are those of the report.
use native.Mathlib.Omega.{arith}
use Rattle.pack.proofs.RowCounts.{feeds_next, feeds_end}
use Rattle.pack.proofs.short.line_count.Goals as goal

pub loop-byte-preserved : goal.loop-byte-preserved
loop-byte-preserved c =
    let next = feeds_next c.args.report.now c.loop-byte.byte-index c.loop-byte-test.true in (
      omega (arith, c.from-count.ensures, next.0, c.loop-byte.invariant.0),
      omega (arith, c.from-count.ensures, next.1, c.loop-byte.invariant.1),
    )

pub returns : goal.returns
returns c = omega (arith, feeds_end c.args.report.now c.loop-byte.byte-index c.loop-byte-test.false, c.loop-byte.invariant.1)
