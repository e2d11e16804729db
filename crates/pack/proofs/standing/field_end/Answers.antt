-- `pack::standing::field_end` meets its contract.
use borrow.Author.Tests.{eqb-true, eqb-false}
use mathlib.Core.Path.{◌∙◌, sym}
use Rattle.std.proofs.lemmas.Option.{IfSome_then}
use Rattle.pack.proofs.StandingLaws.{field_there, field_absent}
use Rattle.pack.proofs.standing.field_end.Goals as goal

pub returns-then-not-is_in : goal.returns-then-not-is_in
returns-then-not-is_in c =
    let args = c.args in
    let pre = c.requires in
    IfSome_then _ c.byte_end.ensures (field_absent args.row args.element pre.0 pre.1 args.start args.end (eqb-false _ 1 (sym c.is_in.ensures ∙ c.if-not-is_in.true)))

pub returns-then-from-start : goal.returns-then-from-start
returns-then-from-start c =
    let args = c.args in
    let pre = c.requires in
    IfSome_then _ c.byte_end-then-from-start.ensures
    (field_there args.row args.element pre.0 pre.1 args.start args.end pre.2 (eqb-true _ 1 (sym c.is_in.ensures ∙ c.if-not-is_in.false)) _ _ c.from.ensures c.if-from-start.true c.from-then-from-start.ensures)
