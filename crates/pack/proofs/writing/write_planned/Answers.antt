-- `pack::writing::write_planned` meets its contract.
use Rattle.pack.proofs.PromiseLaws.{not_same, are_same, cuts_differ, too_short, plan_asks, plan_written}
use Rattle.pack.proofs.writing.write_planned.Goals as goal

pub returns-then-not-are_found : goal.returns-then-not-are_found
returns-then-not-are_found c =
    rw c.of_request.ensures (cuts_differ c.requires c.args.cuts.now c.args.output.now (not_same _ _ _ c.are_found.ensures c.if-not-are_found.true))

pub returns-then-output-plan : goal.returns-then-output-plan
returns-then-output-plan c =
    rw c.of_request-then-output-plan.ensures
    (too_short c.requires c.args.cuts.now c.args.output.now (are_same _ _ _ c.are_found.ensures c.if-not-are_found.false) c.if-output-plan.true)

pub write_blocks-requires : goal.write_blocks-requires
write_blocks-requires c =
    plan_asks c.requires c.args.cuts.now c.args.output.now (are_same _ _ _ c.are_found.ensures c.if-not-are_found.false) c.if-output-plan.false

pub returns : goal.returns
returns c =
    plan_written c.requires c.args.cuts.now c.args.output.now (are_same _ _ _ c.are_found.ensures c.if-not-are_found.false) c.if-output-plan.false c.write_blocks.ensures
