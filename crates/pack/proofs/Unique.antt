-- Each call of packing has one answer: no second one meets its promise, and no second list or output.
use Prim.Native.Nat.{ℕ}
use mathlib.Core.Path.{◌≡◌, refl, sym, ap, ◌∙◌}
use mathlib.Core.List.{List}
use native.Mathlib.Omega.{arith}
use Rattle.std.specs.Prelude.{Result, Ok, Err}
use lib.ListN.{length}
use Rattle.text.specs.Output.{put_over}
use Rattle.text.specs.Part.{same}
use Rattle.refusal.specs.Paper.{Paper, Answer, refused_by, absent, given}
use Rattle.refusal.specs.declared.Refusal.{Refusal}
use Rattle.refusal.proofs.Papers.{refusal_of, refusal_of_paper}
use Rattle.report.specs.Report.{Outcome, accepted, refused, read}
use Rattle.layout.specs.Written.{written}
use Rattle.layout.proofs.Unique.{cuts_unique}
use Rattle.pack.specs.Promise.{measured_paper, MeasureCase, MeasurePromised}
use Rattle.pack.specs.Promise.{written_paper, written_answer, written_over, WriteCase, WritePromised}
use Rattle.pack.specs.declared.Measured.{Measured}

-- A refusal is no length.
pub refused≢given : {A : Type 0} (x : Paper) (a : A) → refused_by x ≡ given a → ⊥
refused≢given x a e = absurd (let z : ◌≡◌ {A = ℕ} 0 1 = cc in omega arith)

-- ---- the length

one_measure_case : (outcome : Outcome) (before after other : List ℕ) (answer second : Answer (ℕ × ℕ)) → MeasureCase outcome before after answer
    → MeasureCase outcome before other second → (answer ≡ second) × (after ≡ other)
one_measure_case (accepted L) before after other answer second p q =
    let e : p.cuts ≡ q.cuts = cuts_unique L p.cuts q.cuts p.shortest q.shortest in (
      p.answer_is ∙ (ap (λ (cuts : List ℕ). given (length (written cuts L), length cuts)) e ∙ sym q.answer_is),
      p.list_is ∙ (ap (λ (cuts : List ℕ). put_over cuts before) e ∙ sym q.list_is),
    )
one_measure_case (refused x) before after other answer second p q = (p.answer_is ∙ sym q.answer_is, p.lent_is ∙ sym q.lent_is)

-- The promise of measuring settles the paper's answer and every number of the list.
pub one_measured : (report before after other : List ℕ) (answer second : Answer (ℕ × ℕ)) → MeasurePromised report before after answer
    → MeasurePromised report before other second → (answer ≡ second) × (after ≡ other)
one_measured report before after other answer second p q = one_measure_case (read report) before after other answer second p.case q.case

-- The answer of measuring that the paper's answer is.
abbrev measured_from : Answer (ℕ × ℕ) → Result Measured Refusal
measured_from (refused_by x) = Err (refusal_of x)
measured_from absent = Ok (record { length = 0; blocks = 0 })
measured_from (given pair) = Ok (record { length = pair.0; blocks = pair.1 })

measured_from_paper : (answer : Result Measured Refusal) → measured_from (measured_paper answer) ≡ answer
measured_from_paper (Ok measured) = refl
measured_from_paper (Err x) = ap Err (refusal_of_paper x)

-- So it settles the answer of measuring: no two are written alike.
pub one_measure : (report before after other : List ℕ) (answer second : Result Measured Refusal) → MeasurePromised report before after (measured_paper answer)
    → MeasurePromised report before other (measured_paper second) → (answer ≡ second) × (after ≡ other)
one_measure report before after other answer second p q =
    let e = one_measured report before after other (measured_paper answer) (measured_paper second) p q in
    (sym (measured_from_paper answer) ∙ (ap measured_from e.0 ∙ measured_from_paper second), e.1)

-- ---- writing

one_write_case : (outcome : Outcome) (handed before after other : List ℕ) (answer second : Answer ℕ) → WriteCase outcome handed before after answer
    → WriteCase outcome handed before other second → (answer ≡ second) × (after ≡ other)
one_write_case (accepted L) handed before after other answer second p q =
    let e : p.cuts ≡ q.cuts = cuts_unique L p.cuts q.cuts p.shortest q.shortest in (
      p.answer_is ∙ (ap (λ (cuts : List ℕ). written_answer (same handed cuts) (written cuts L) before) e ∙ sym q.answer_is),
      p.output_is ∙ (ap (λ (cuts : List ℕ). written_over (same handed cuts) (written cuts L) before) e ∙ sym q.output_is),
    )
one_write_case (refused x) handed before after other answer second p q = (p.answer_is ∙ sym q.answer_is, p.lent_is ∙ sym q.lent_is)

-- The promise of writing settles the paper's answer and every byte of the output.
pub one_written : (report handed before after other : List ℕ) (answer second : Answer ℕ) → WritePromised report handed before after answer
    → WritePromised report handed before other second → (answer ≡ second) × (after ≡ other)
one_written report handed before after other answer second p q =
    one_write_case (read report) handed before after other answer second p.case q.case

-- The answer of writing that the paper's answer is.
abbrev written_from : Answer ℕ → Result ℕ Refusal
written_from (refused_by x) = Err (refusal_of x)
written_from absent = Ok 0
written_from (given n) = Ok n

written_from_paper : (answer : Result ℕ Refusal) → written_from (written_paper answer) ≡ answer
written_from_paper (Ok n) = refl
written_from_paper (Err x) = ap Err (refusal_of_paper x)

-- So it settles the answer of writing: no two are written alike.
pub one_write : (report handed before after other : List ℕ) (answer second : Result ℕ Refusal) → WritePromised report handed before after (written_paper answer)
    → WritePromised report handed before other (written_paper second) → (answer ≡ second) × (after ≡ other)
one_write report handed before after other answer second p q =
    let e = one_written report handed before after other (written_paper answer) (written_paper second) p q in
    (sym (written_from_paper answer) ∙ (ap written_from e.0 ∙ written_from_paper second), e.1)
