-- What the two calls of packing promise, over what reading means. `measure` gives the length of the packed report, the number of its blocks
-- and their cuts; `write`, handed these cuts, writes it over the start of the lent output. Nothing here speaks of a search.
use Rattle.std.specs.Prelude.{ℕ, ◌≡◌, Bool, cond, List, length, Result, Ok, Err}
use Rattle.text.specs.Output.{has_room, put_over}
use Rattle.text.specs.Part.{same}
use Rattle.refusal.specs.Paper.{paper, Answer, refused_by, given, request}
use Rattle.refusal.specs.declared.Kind.TheVariants.{OutputTooShort, CutsDiffer}
use Rattle.refusal.specs.declared.Refusal.{Refusal}
use Rattle.element.specs.Observation.{Observation}
use Rattle.report.specs.Report.{Outcome, accepted, refused, read}
use Rattle.layout.specs.Packed.{ShortestCuts, PackedIs}
use Rattle.layout.specs.Written.{written}
use Rattle.pack.specs.declared.Measured.{Measured}

-- Of a refused report each call gives its refusal. No refusal changes what is lent.
pub record RefusedAs {A : Type 0} (refusal : Refusal) (before after : List ℕ) (answer : Answer A) : Type 0 where
  pub answer_is : answer ≡ refused_by (paper refusal)
  pub lent_is : after ≡ before

-- ---- the length

-- The answer of measuring as the paper gives it: the length of the packed report and the number of its blocks, or a refusal.
abbrev pub measured_paper : Result Measured Refusal → Answer (ℕ × ℕ)
measured_paper (Ok measured) = given (measured.length, measured.blocks)
measured_paper (Err x) = refused_by (paper x)

-- Of an accepted report: the length of its packed report and the number of its blocks. The cuts are written over the start of the lent list,
-- and numbers after the last cut stay. Where there is no room for all of them none is written.
pub record MeasuredAs (observations : List Observation) (before after : List ℕ) (answer : Answer (ℕ × ℕ)) : Type 0 where
  pub cuts : List ℕ
  pub shortest : ShortestCuts observations cuts
  pub answer_is : answer ≡ given (length (written cuts observations), length cuts)
  pub list_is : after ≡ put_over cuts before

-- By what the report reads as.
abbrev pub MeasureCase : Outcome → List ℕ → List ℕ → Answer (ℕ × ℕ) → Type 0
MeasureCase (accepted observations) before after answer = MeasuredAs observations before after answer
MeasureCase (refused refusal) before after answer = RefusedAs refusal before after answer

-- The promise of measuring a report: the list lent for the cuts before and after, and the paper's answer.
pub record MeasurePromised (report before after : List ℕ) (answer : Answer (ℕ × ℕ)) : Type 0 where
  pub case : MeasureCase (read report) before after answer

-- ---- writing

-- The answer of writing as the paper gives it: the length of the packed report, or a refusal.
abbrev pub written_paper : Result ℕ Refusal → Answer ℕ
written_paper (Ok n) = given n
written_paper (Err x) = refused_by (paper x)

-- The length of the packed report, or 15: the lent output is shorter than it.
abbrev pub packed_answer : List ℕ → List ℕ → Answer ℕ
packed_answer text output = cond (has_room text output) (given (length text)) (refused_by (paper (request OutputTooShort)))

-- The same where the cuts that were handed in are right; else 24.
abbrev pub written_answer : Bool → List ℕ → List ℕ → Answer ℕ
written_answer right text output = cond right (packed_answer text output) (refused_by (paper (request CutsDiffer)))

-- The output after: the packed report over its start where the cuts are right and there is room for all of it, otherwise unchanged.
abbrev pub written_over : Bool → List ℕ → List ℕ → List ℕ
written_over right text output = cond right (put_over text output) output

-- Of an accepted report: where the cuts that were handed in are those of its packed report, that is written over the start of the output,
-- and output bytes after the end stay. Where they are any others, or there is no room for all of it, nothing is written.
pub record WrittenAs (observations : List Observation) (handed before after : List ℕ) (answer : Answer ℕ) : Type 0 where
  pub cuts : List ℕ
  pub shortest : ShortestCuts observations cuts
  pub answer_is : answer ≡ written_answer (same handed cuts) (written cuts observations) before
  pub output_is : after ≡ written_over (same handed cuts) (written cuts observations) before

-- By what the report reads as.
abbrev pub WriteCase : Outcome → List ℕ → List ℕ → List ℕ → Answer ℕ → Type 0
WriteCase (accepted observations) handed before after answer = WrittenAs observations handed before after answer
WriteCase (refused refusal) handed before after answer = RefusedAs refusal before after answer

-- The promise of writing a report by cuts: the cuts that were handed in, the output before and after, and the paper's answer.
pub record WritePromised (report handed before after : List ℕ) (answer : Answer ℕ) : Type 0 where
  pub case : WriteCase (read report) handed before after answer

-- ---- the pair

-- What the pair comes to, n being the length that the first call gave: the report is accepted, its packed report has that length and is
-- written over the start of the output. 15 where the output is shorter, and then nothing is written.
pub record PackedInto (report : List ℕ) (n : ℕ) (before after : List ℕ) (answer : Answer ℕ) : Type 0 where
  pub observations : List Observation
  pub is : read report ≡ accepted observations
  pub text : List ℕ
  pub packed : PackedIs observations text
  pub long : length text ≡ n
  pub answer_is : answer ≡ packed_answer text before
  pub output_is : after ≡ put_over text before
