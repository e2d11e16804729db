-- `text::part::same` meets its contract.
use Rattle.std.proofs.Common.{rules}
use lib.Seq.{take_all}
use Rattle.text.proofs.Chains.{same_is_pointwise}
use Rattle.text.proofs.part.same.Goals as goal

pub returns : goal.returns
returns c = search (rules, same_is_pointwise, take_all)
