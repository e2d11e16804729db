-- `value::word::one_of` meets its contract.
use borrow.Author.Rules.{rules}
use denote.Ref.{Bor}
use lib.Dec.{eqb}
use mathlib.Core.List.{List}
use mathlib.Core.Path.{◌∙◌, sym}
use Prim.Native.Nat.{ℕ}
use Rattle.std.proofs.lemmas.Iterator.{YieldsList-from_slice}
use Rattle.std.proofs.lemmas.Iterator.Search.{any_from_yields_List}
use Rattle.std.specs.Cmp.Lexicographic.{pointwise}
use Rattle.value.proofs.Words.{listed_is}
use Rattle.value.proofs.word.one_of.Goals as goal

pub returns-then-any : goal.returns-then-any
returns-then-any c =
    let words = c.args.words.now in
    let text = c.args.text.now in
    rw (sym (any_from_yields_List (λ (word : Bor (List ℕ)). pointwise eqb word.now text) _ _ _ c.if-any.ensures.ran
    (YieldsList-from_slice words cc) (λ x b q k. search rules) ∙ listed_is words text))

pub returns-else-any : goal.returns-else-any
returns-else-any c =
    let words = c.args.words.now in
    let text = c.args.text.now in
    rw (sym (any_from_yields_List (λ (word : Bor (List ℕ)). pointwise eqb word.now text) _ _ _ c.if-any.ensures.ran
    (YieldsList-from_slice words cc) (λ x b q k. search rules) ∙ listed_is words text))
