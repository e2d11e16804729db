use borrow.Author.Tests.{eq-eqb, ne_eqb}
use native.Mathlib.Omega.{arith}
use Rattle.report.specs.Inner.{mark_on}
use Rattle.report.proofs.RowLaws.{present_none, present_some, shifted}
use Rattle.report.proofs.row.marked.Goals as goal

pub returns-then-is_empty : goal.returns-then-is_empty
unfolding mark_on
returns-then-is_empty c = rw (present_none c.args.value.now c.if-is_empty.ensures)

pub returns-then-element-eq8 : goal.returns-then-element-eq8
unfolding mark_on
returns-then-element-eq8 c =
    let args = c.args in
    let if2 = c.if-element-eq8 in
    rw (present_some args.value.now c.if-is_empty.ensures, shifted _ c.requires, eq-eqb _ _ if2.true, ne_eqb args.element 9 (λ z. omega (arith, z, if2.true)), c.same-wgs84.ensures)

pub returns-then-element-eq9 : goal.returns-then-element-eq9
unfolding mark_on
returns-then-element-eq9 c =
    rw (present_some c.args.value.now c.if-is_empty.ensures, shifted _ c.requires, ne_eqb _ _ c.if-element-eq8.false, eq-eqb _ _ c.if-element-eq9.true, c.same-earth.ensures)

pub returns : goal.returns
unfolding mark_on
returns c =
    rw (present_some c.args.value.now c.if-is_empty.ensures, shifted _ c.requires, ne_eqb _ _ c.if-element-eq8.false, ne_eqb _ _ c.if-element-eq9.false)
