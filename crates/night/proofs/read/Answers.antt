-- `night::read` meets its contract.
use native.Mathlib.Omega.{arith}
use Rattle.std.proofs.Common.{◌≡◌, ◌≤◌, rules, false, sym, ap, ◌∙◌}
use Rattle.std.specs.Prelude.{leb, ◌&&◌}
use Rattle.std.proofs.lemmas.Grind.{common_steps}
use Rattle.std.proofs.lemmas.Result.{err_from_is_err_and}
use Rattle.refusal.specs.Paper.{paper, refused_by, given}
use Rattle.night.proofs.ListExact.{none_told}
use Rattle.night.proofs.TestLaws.{record_none, in_list, record_told}
use Rattle.night.proofs.read.Goals as goal

pub returns-in_err-count : goal.returns-in_err-count
returns-in_err-count c =
    let p = err_from_is_err_and c.from_residual.result c.from_residual.ensures.1 in
    rw (p.1, p.2) (sym (none_told _ _ (sym c.in_err-count.ensures) _))

pub returns-then-not-contains : goal.returns-then-not-contains
returns-then-not-contains c =
    let out : (leb 1 c.args.number && leb c.args.number c.in_ok-count.count) ≡ false = search rules in
    ap (λ x. refused_by (paper x)) c.of_request.ensures ∙ record_none _ _ c.args.number c.in_ok-count.ensures out

pub record_at-requires : goal.record_at-requires
record_at-requires c =
    let first : 1 ≤ c.args.number = grind (arith, common_steps) in
    let last : c.args.number ≤ c.in_ok-count.count = grind (arith, common_steps) in
    (first, in_list _ _ _ c.in_ok-count.ensures first last)

pub returns : goal.returns
returns c =
    let first : 1 ≤ c.args.number = grind (arith, common_steps) in
    let last : c.args.number ≤ c.in_ok-count.count = grind (arith, common_steps) in
    ap (λ x. given x) c.record_of.ensures ∙ record_told _ _ _ c.in_ok-count.ensures first last c.record_at.ensures
