use Prim.Native.Nat.{◌-◌}
use lib.ListN.{length}
use Rattle.report.proofs.ReaderLaws.{Reading}
use Rattle.report.proofs.reader.read.Given as goal

abbrev pub invariant-loop-line : goal.invariant-loop-line
invariant-loop-line l =
    Reading l.report l.columns l.first l.room l.rows l.place.at l.place.number l.k l.state

abbrev pub decreases-loop-line : goal.decreases-loop-line
decreases-loop-line l = length l.report - l.place.at
