-- `inspect::oddity::odd_version` meets its contract.
use Prim.Native.Nat.{ℕ}
use lib.ListN.{drop, take}
use mathlib.Core.List.{List}
use mathlib.Core.Path.{◌≡◌, ap, sym, ◌∙◌}
use Rattle.text.specs.Lines.{trim, TrimmedIs}
use Rattle.text.specs.Part.{same}
use Rattle.report.specs.Report.{version_line}
use Rattle.inspect.specs.Oddity.{odd_version}
use Rattle.inspect.proofs.oddity.odd_version.Goals as goal

-- The line without the blanks around it is the version line where its part is.
words_are : {line rest words : List ℕ} {start size : ℕ} → TrimmedIs line start size → rest ≡ drop start line → words ≡ take size rest
    → same (trim line) version_line ≡ same words version_line
words_are t r w = ap (λ (x : List ℕ). same x version_line) (sym (w ∙ rw r t.value))

pub returns-then-same-2 : goal.returns-then-same-2
unfolding odd_version
returns-then-same-2 c =
    let words = words_are c.trimmed-words.ensures c.tail.ensures c.front.ensures in
    rw (sym c.same.ensures ∙ c.if-same.false, words ∙ sym c.same-2.ensures ∙ c.if-same-2.true)

pub returns : goal.returns
unfolding odd_version
returns c =
    let words = words_are c.trimmed-words.ensures c.tail.ensures c.front.ensures in
    rw (sym c.same.ensures ∙ c.if-same.false, words ∙ sym c.same-2.ensures ∙ c.if-same-2.false)
