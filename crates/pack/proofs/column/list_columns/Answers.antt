-- `pack::column::list_columns` meets its contract. The invariant: of the first elements of the column order, those in the set are listed.
use mathlib.Core.Path.{sym, ◌∙◌}
use native.Mathlib.Omega.{arith}
use Rattle.element.proofs.Order.{order_known}
use Rattle.pack.proofs.ColumnLaws.{list_begin, list_in, list_out, list_end}
use Rattle.pack.proofs.column.list_columns.Goals as goal
use Rattle.pack.proofs.column.list_columns.Goals.{then-is_in, else-is_in}

pub loop-place-init : goal.loop-place-init
loop-place-init c = list_begin c.args.set c.args.columns.now c.requires

pub is_in-requires : goal.is_in-requires
is_in-requires c = omega (arith, c.from-element.ensures, order_known c.loop-place.place-index c.loop-place-test.true)

pub loop-place-preserved : goal.loop-place-preserved
loop-place-preserved c =
    let loop = c.loop-place in
    elim c.if-is_in.branch [
      | then-is_in w ↦
          rw (w.columns-is, w.n-is) (list_in loop.invariant c.loop-place-test.true _ c.from-element.ensures (sym c.is_in.ensures ∙ w.if-is_in.true))
      | else-is_in w ↦
          rw (w.columns-is, w.n-is) (list_out loop.invariant c.loop-place-test.true _ c.from-element.ensures (sym c.is_in.ensures ∙ w.if-is_in.false))
    ]

pub returns : goal.returns
returns c = list_end c.loop-place.invariant c.loop-place-test.false
