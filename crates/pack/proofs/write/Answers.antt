-- `pack::write` meets its contract.
use mathlib.Core.Path.{refl, sym, ◌∙◌}
use native.Mathlib.Omega.{arith}
use Rattle.pack.proofs.RowCounts.{short_few, rows_few}
use Rattle.pack.proofs.write.Goals as goal

pub write_rows-requires : goal.write_rows-requires
write_rows-requires c = (short_few c.args.report.now (sym c.is_short.ensures ∙ c.if-is_short.true), omega arith, refl)

pub write_rows-requires-2 : goal.write_rows-requires-2
write_rows-requires-2 c = (rows_few c.args.report.now, omega arith, refl)
