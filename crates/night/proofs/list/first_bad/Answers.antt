-- `night::list::first_bad` meets its contract.
use lib.Seq.{take_all}
use Rattle.std.proofs.Common.{rules, sym, ◌∙◌}
use Rattle.night.proofs.ListLaws.{look_start, look_end, look_on, look_bad, rest_is}
use Rattle.night.proofs.list.first_bad.Goals as goal

pub loop-index-init : goal.loop-index-init
loop-index-init c = (search rules, tt, search rules, search (rules, take_all), look_start _ _ (search rules))

pub returns-then-not-is_record : goal.returns-then-not-is_record
returns-then-not-is_record c =
    let steps = c.in-Some.ensures.steps in
    let was = c.loop-index.invariant in
    let long = rw was.2 at steps.0.1.1 in
    let bad = rw steps.1 at (sym c.is_record.ensures ∙ c.if-not-is_record.true) in
    rw steps.1 (look_bad _ _ was.4 _ was.3 _ _ steps.0.1.0 long steps.0.1.2 bad)

pub loop-index-preserved : goal.loop-index-preserved
loop-index-preserved c =
    let steps = c.in-Some.ensures.steps in
    let was = c.loop-index.invariant in
    let long = rw was.2 at steps.0.1.1 in
    let right = rw steps.1 at (sym c.is_record.ensures ∙ c.if-not-is_record.false) in (
      search rules,
      tt,
      steps.0.0 ∙ was.2,
      rw steps.2 (rest_is _ _ was.4 _ was.3 _ _ steps.0.1.0 long steps.0.1.2),
      rw steps.2 (look_on _ _ was.4 _ was.3 _ _ steps.0.1.0 long steps.0.1.2 right),
    )

pub returns : goal.returns
returns c =
    let was = c.loop-index.invariant in
    look_end _ _ was.4 _ was.3 c.in-None.ensures.steps.0.1.0
