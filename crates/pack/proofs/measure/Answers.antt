-- `pack::measure` meets its contract.
use mathlib.Core.Path.{refl, sym, ◌∙◌}
use native.Mathlib.Omega.{arith}
use Rattle.pack.proofs.RowCounts.{short_few, rows_few}
use Rattle.pack.proofs.measure.Goals as goal

pub measure_rows-requires : goal.measure_rows-requires
measure_rows-requires c = (short_few c.args.report.now (sym c.is_short.ensures ∙ c.if-is_short.true), omega arith, refl)

pub measure_rows-requires-2 : goal.measure_rows-requires-2
measure_rows-requires-2 c = (rows_few c.args.report.now, omega arith, refl)
