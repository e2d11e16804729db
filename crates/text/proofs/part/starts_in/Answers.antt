-- `text::part::starts_in` meets its contract.
use lib.ListN.{length, take}
use mathlib.Core.Path.{◌∙◌, ap, sym}
use Rattle.std.specs.List.{list_all}
use Rattle.std.proofs.Common.{rules}
use Rattle.std.proofs.lemmas.Iterator.{YieldsList-from_slice, YieldsList-from_zip}
use Rattle.std.proofs.lemmas.Iterator.Search.{all_from_yields_List}
use Rattle.text.proofs.Parts.{starts_is, starts_short, zip_front}
use Rattle.text.specs.Part.{matches}
use Rattle.text.proofs.part.starts_in.Goals as goal

pub returns-then-text-shape : goal.returns-then-text-shape
returns-then-text-shape c = sym (starts_short c.args.shape.now c.args.text.now c.if-text-shape.true)

pub returns : goal.returns
returns c =
    let shape = c.args.shape.now in
    let text = c.args.text.now in
    starts_is shape text c.if-text-shape.false (all_from_yields_List (λ p. matches p.0 p.1) c.all.new.self _ _ c.all.ensures.ran
    (YieldsList-from_zip (YieldsList-from_slice shape (cc)) (YieldsList-from_slice (take (length shape) text) (cc))) (λ x b q k. search rules)
    ∙ ap (list_all (λ p. matches p.0 p.1)) (zip_front shape text))
