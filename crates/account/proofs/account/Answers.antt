-- `account::account` meets its contract.
use native.Mathlib.Omega.{arith}
use mathlib.Core.Path.{◌∙◌}
use Rattle.account.proofs.AccountLaws.{none_accounted, all_accounted, sum_small}
use Rattle.account.proofs.account.Goals as goal

pub returns-then-sets-gt-MOST_ROWS : goal.returns-then-sets-gt-MOST_ROWS
returns-then-sets-gt-MOST_ROWS c = c.close.ensures ∙ none_accounted c.args.sets.now c.args.sizes.now c.then-sets-gt-MOST_ROWS.either

pub close-requires-2 : goal.close-requires-2
close-requires-2 c = (omega (arith, c.total.ensures, sum_small c.args.sizes.now (λ k. (c.type_inv.sizes k).fits)), omega arith)

pub returns : goal.returns
returns c = c.close-2.ensures ∙ rw (c.join.ensures, c.total.ensures) (all_accounted c.args.sets.now c.args.sizes.now (omega arith) c.if-sizes-sets.false)
