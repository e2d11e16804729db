-- `explain::elements::words_at` meets its contract.
use mathlib.Core.Path.{◌≡◌, ◌∙◌}
use lib.Seq.{take-append_seam}
use Rattle.text.specs.Output.{over}
use Rattle.element.specs.Table.{name_of}
use Rattle.explain.proofs.elements.words_at.Goals as goal

pub returns : goal.returns
unfolding over
returns c =
    let put = c.put_whole-length.ensures in
    let e : c.front.result.now ≡ name_of c.args.index = c.front.ensures ∙ rw (put.0, put.1) (take-append_seam _ _) in
    rw e at c.first_named.ensures.has
