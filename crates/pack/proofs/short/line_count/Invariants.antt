-- `pack::short::line_count` meets its contract. The invariant: the LFs passed and the LFs left are those of the report.
use Prim.Native.Nat.{◌≤◌, ◌+◌}
use mathlib.Core.Path.{◌≡◌}
use lib.ListN.{drop}
use Rattle.pack.specs.Inner.{feeds}
use Rattle.pack.proofs.short.line_count.Given as goal

abbrev pub invariant-loop-byte : goal.invariant-loop-byte
invariant-loop-byte l = (l.count ≤ l.byte-index) × (l.count + feeds (drop l.byte-index l.report) ≡ feeds l.report)
