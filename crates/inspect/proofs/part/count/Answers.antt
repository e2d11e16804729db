-- `inspect::part::count` meets its contract.
use borrow.Author.Rules.{rules}
use lib.Dec.{eqb}
use mathlib.Core.Path.{◌≡◌, ◌∙◌}
use Rattle.std.specs.Prelude.{count_by}
use Rattle.std.proofs.iter.runs.Made.{chains}
use Rattle.std.proofs.lemmas.List.Sums.{count_by-le-length}
use Rattle.inspect.proofs.PartLaws.{marks_counted}
use Rattle.inspect.proofs.part.count.Goals as goal

pub returns : goal.returns
returns c =
    let text = c.args.text.now in
    let counted : c.count.result ≡ count_by (λ byte. eqb byte c.args.mark) text = search (rules, chains) in
    (counted ∙ marks_counted c.args.mark text, rw counted (count_by-le-length (λ byte. eqb byte c.args.mark) text))
