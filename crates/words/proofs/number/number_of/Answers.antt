-- `words::number::number_of` meets its contract.
use Prim.Native.Nat.{min}
use mathlib.Core.Path.{◌∙◌}
use native.Mathlib.Omega.{arith}
use Rattle.std.proofs.Common.{rules}
use Rattle.std.proofs.lemmas.Iterator.{YieldsList-from_slice}
use Rattle.std.proofs.lemmas.Iterator.Consumers.{fold_from_yields_List}
use Rattle.text.specs.Digits.{after}
use Rattle.words.specs.Numbers.{largest}
use Rattle.words.proofs.LargestLaws.{fold_is}
use Rattle.words.proofs.number.number_of.Goals as goal

pub returns : goal.returns
returns c =
    fold_from_yields_List _ (λ n b. min (after n b) largest) 0 _ c.fold.ensures.ran (YieldsList-from_slice c.args.text.now (cc)) (λ a x b q k. search rules)
    ∙ fold_is 0 c.args.text.now (omega arith)
