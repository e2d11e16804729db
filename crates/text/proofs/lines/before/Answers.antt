-- `text::lines::before` meets its contract.
use Rattle.std.proofs.Common.{rules}
use Rattle.std.proofs.lemmas.Iterator.{YieldsList-from_slice}
use Rattle.std.proofs.lemmas.Iterator.Consumers.{count_from_yields_List}
use Rattle.std.proofs.lemmas.Iterator.Search.{YieldsList-from_take_while}
use Rattle.text.proofs.Chains.{up_to_is}
use Rattle.text.proofs.lines.before.Goals as goal

pub returns : goal.returns
returns c = up_to_is c.args.mark c.args.text.now (count_from_yields_List _ _ c.count.ensures.ran
    (YieldsList-from_take_while _ _ (YieldsList-from_slice c.args.text.now (cc)) c.take_while.ensures.closure c.take_while.ensures.done (λ x b q k. search rules)))
