-- `element::name::next` meets its contract.
use mathlib.Core.Path.{sym, ◌∙◌}
use native.Mathlib.Omega.{arith}
use Rattle.element.proofs.Names.{found_at, index_no, index_yes}
use Rattle.element.specs.Table.{names}
use Rattle.element.proofs.name.next.Goals as goal

pub returns-then-same : goal.returns-then-same
returns-then-same c =
    let is = rw c.name_at.ensures at (sym c.same.ensures ∙ c.if-same.true) in
    let here = index_yes names c.args.name.now c.loop-i.i (omega arith) is in
    found_at _ _ (omega arith) (omega (arith, here))

pub loop-i-preserved : goal.loop-i-preserved
loop-i-preserved c =
    let other = rw c.name_at.ensures at (sym c.same.ensures ∙ c.if-same.false) in
    omega (arith, index_no names c.args.name.now c.loop-i.i (omega arith) other)
