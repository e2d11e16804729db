use Rattle.std.proofs.Common.{rules}
use Prim.Native.Nat.{ℕ}
use mathlib.Core.List.{List}
use mathlib.Core.Path.{ap, sym, ◌∙◌}
use lib.ListN.{length}
use native.Mathlib.Omega.{arith}
use Rattle.report.proofs.RowLaws.{none_yet, fill_start, field_bad, fields_on, fields_end}
use Rattle.report.proofs.row.take_fields.Goals as goal

pub loop-k-init : goal.loop-k-init
loop-k-init c = fill_start _ _ _ _ _ _ (sym c.requires.parts_are) (search rules) (search rules) (none_yet c.default-marks.result c.default-marks.ensures)

pub returns-in-Err : goal.returns-in-Err
returns-in-Err c =
    let slice = c.as_slice-column-items.ensures in
    let fault = rw (c.from-column.ensures, slice.0) at c.fault.ensures in
    record { case = field_bad c.loop-k.invariant c.field_at-field.ensures (rw slice.0 at c.loop-k-test.true) _ (sym c.in-Err.is ∙ fault) }

pub loop-k-preserved : goal.loop-k-preserved
loop-k-preserved c =
    let slice = c.as_slice-column-items.ensures in
    let column = c.from-column.ensures in
    let small = rw slice.0 at (slice.1 c.loop-k.k c.loop-k-test.true) in
    let fine = rw (column, slice.0) at c.fault.ensures in
    let marked = rw (column, slice.0) at c.marked-marks.ensures in
    let noted = rw (column, slice.0) at c.note.ensures in
    fields_on c.loop-k.invariant c.field_at-field.ensures (rw slice.0 at c.loop-k-test.true) c.requires small (sym c.in_default.is ∙ fine) marked noted

pub returns : goal.returns
returns c =
    record { case = fields_end c.loop-k.invariant (omega (arith, c.loop-k-test.false, ap (λ (l : List ℕ). length l) c.as_slice-column-items.ensures.0)) }
