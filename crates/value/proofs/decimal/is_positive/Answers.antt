-- `value::decimal::is_positive` meets its contract.
use borrow.Author.Rules.{rules}
use borrow.Author.Tests.{tests}
use mathlib.Core.Path.{◌∙◌}
use mathlib.Core.Bool.{◌&&◌}
use lib.Dec.{leb}
use Rattle.std.proofs.lemmas.Iterator.{YieldsList-from_slice}
use Rattle.std.proofs.lemmas.Iterator.Search.{any_from_yields_List}
use Rattle.value.proofs.Numerals.{positive_is}
use Rattle.value.proofs.decimal.is_positive.Goals as goal

pub returns : goal.returns
returns c =
    any_from_yields_List (λ byte. leb 49 byte && leb byte 57) _ _ _ c.any.ensures.ran (YieldsList-from_slice c.args.text.now cc) (λ x b q k. search (rules, tests))
    ∙ positive_is c.args.text.now
