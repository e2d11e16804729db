use Prim.Native.Nat.{ℕ}
use mathlib.Core.List.{List}
use mathlib.Core.Path.{◌≡◌, ap, sym, ◌∙◌}
use native.Mathlib.Omega.{arith}
use Rattle.report.specs.Report.{member}
use Rattle.report.proofs.ColumnLaws.{name_start, name_unknown, name_twice, name_room, name_named, name_on, member_is}
use Rattle.report.proofs.columns.name_columns.Goals as goal
use Rattle.report.proofs.columns.name_columns.Goals.{After-contains}

-- Whether the element is among the columns so far.
seen : (c : After-contains) → c.contains.result ≡ member c.in-Some.element c.loop-k.columns
seen c =
    c.contains.ensures.value ∙ (member_is c.in-Some.element c.as_slice.result.now
    ∙ ap (λ (columns : List ℕ). member c.in-Some.element columns) c.as_slice.ensures.0)

pub loop-k-init : goal.loop-k-init
loop-k-init c = rw c.none-columns.ensures (name_start _ c.requires.0)

pub returns-in_default : goal.returns-in_default
returns-in_default c = record { case = name_unknown c.loop-k.invariant c.loop-k-test.true c.field_at-field.ensures c.index_from.ensures c.in_default.is }

pub returns-then-contains : goal.returns-then-contains
returns-then-contains c =
    let found = sym c.if-contains.true ∙ seen (goal.at.returns-then-contains c).After-contains in
    record { case = name_twice c.loop-k.invariant c.loop-k-test.true c.field_at-field.ensures c.index_from.ensures c.in-Some.is found }

pub push-requires : goal.push-requires
push-requires c =
    let other = sym c.if-contains.false ∙ seen (goal.at.push-requires c).After-contains in
    name_room c.loop-k.invariant c.loop-k-test.true c.field_at-field.ensures c.index_from.ensures c.in-Some.is other

pub loop-k-preserved : goal.loop-k-preserved
loop-k-preserved c =
    let other = sym c.if-contains.false ∙ seen (goal.at.loop-k-preserved c).After-contains in
    rw c.push.ensures (name_on c.loop-k.invariant c.loop-k-test.true c.field_at-field.ensures c.index_from.ensures c.in-Some.is other)

pub returns : goal.returns
returns c = name_named c.loop-k.invariant (omega (arith, c.loop-k-test.false))
