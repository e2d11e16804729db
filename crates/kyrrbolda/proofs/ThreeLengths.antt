-- Joining nights costs nothing extra, over three answers of `kyrr_length` that are no refusals: of a report, of a second one, and of the bytes
-- of both one after the other.
use Prim.Native.Nat.{ℕ, ◌+◌, ◌≤◌}
use mathlib.Core.Path.{◌≡◌, sym, ap, ◌∙◌}
use mathlib.Core.Bool.{true, false}
use mathlib.Core.List.{List, ◌++◌}
use native.Mathlib.Omega.{arith}
use lib.ListN.{length, take}
use Rattle.refusal.specs.Number.{number_of}
use Rattle.refusal.specs.Paper.{Paper, paper, Answer, refused_by, absent, given}
use Rattle.refusal.specs.declared.Refusal.{Refusal}
use Rattle.refusal.proofs.Papers.{refusal_of_paper}
use Rattle.element.specs.Observation.{Observation}
use Rattle.report.specs.Report.{Outcome, accepted, refused, read}
use Rattle.cuts.specs.Block.{total}
use Rattle.layout.specs.Seam.{spans, seam_block, head_text}
use Rattle.pack.specs.Promise.{MeasureCase, MeasurePromised}
use Rattle.pack.proofs.Unique.{refused≢given}
use Rattle.pack.proofs.ThreeLengths.{lengths_at_most, lengths_same, lengths_saved}
use Rattle.kyrrbolda.specs.Plain.{plain_measured, MeasuredPlainly}
use Rattle.kyrrbolda.specs.declared.KyrrMeasured.{KyrrMeasured}

-- No refusal has the number 0.
never_zero : (x : Refusal) → number_of x.kind ≡ 0 → ⊥
never_zero x e =
    let k = ap (λ (y : Refusal). y.kind) (refusal_of_paper x) in
    absurd (let z : ◌≡◌ {A = ℕ} 1 0 = ap number_of (rw e at k) ∙ e in omega arith)

-- By what the report reads as, a refusal in the paper's answer has another number, and "absent" is no answer.
refused_number : (outcome : Outcome) (before after : List ℕ) (x : Paper) → MeasureCase outcome before after (refused_by x) → x.number ≡ 0 → ⊥
refused_number (accepted L) before after x p e = refused≢given x _ p.answer_is
refused_number (refused r) before after x p e =
    let q : ◌≡◌ {A = Answer (ℕ × ℕ)} (refused_by x) (refused_by (paper r)) = p.answer_is in
    let w : x ≡ paper r = cc in
    never_zero r (sym (ap (λ (y : Paper). y.number) w) ∙ e)

never_absent : (outcome : Outcome) (before after : List ℕ) → MeasureCase outcome before after absent → ⊥
never_absent (accepted L) before after p = let q = p.answer_is in absurd (let z : ◌≡◌ {A = ℕ} 0 1 = cc in omega arith)
never_absent (refused r) before after p = let q = p.answer_is in absurd (let z : ◌≡◌ {A = ℕ} 0 1 = cc in omega arith)

-- So an answer that is no refusal gives a length and a number of blocks.
gives : {report before after : List ℕ} {answer : KyrrMeasured} → MeasuredPlainly report before after answer → answer.refused ≡ 0
    → MeasurePromised report before after (given (answer.length, answer.blocks))
gives {report} {before} {after} {answer} p e = go p.paper p.promised p.is
  where
    go : (x : Answer (ℕ × ℕ)) → MeasurePromised report before after x → answer ≡ plain_measured x
        → MeasurePromised report before after (given (answer.length, answer.blocks))
    go (refused_by x) m is = absurd (refused_number (read report) before after x m.case (sym (ap (λ (y : KyrrMeasured). y.refused) is) ∙ e))
    go absent m is = absurd (never_absent (read report) before after m.case)
    go (given pair) m is = rw is m

module _ {a b : List ℕ} {firstBefore firstAfter secondBefore secondAfter joinedBefore joinedAfter : List ℕ} {x y z : KyrrMeasured}
    (first : MeasuredPlainly a firstBefore firstAfter x) (second : MeasuredPlainly b secondBefore secondAfter y)
    (joined : MeasuredPlainly (a ++ b) joinedBefore joinedAfter z) (x-given : x.refused ≡ 0) (y-given : y.refused ≡ 0) (z-given : z.refused ≡ 0) where
  -- The third length is at most the first two together.
  pub joined_at_most : z.length ≤ x.length + y.length
  joined_at_most = lengths_at_most (gives first x-given) (gives second y-given) (gives joined z-given)

  -- By the cuts that the first call and the third gave, where each was lent a list with room for them: the seam stands after as many rows as
  -- the first call's cuts have together.
  module _ (first-room : x.blocks ≤ length firstBefore) (joined-room : z.blocks ≤ length joinedBefore) where
    -- Where no block of the joined report spans the seam, the third length is the first two together.
    pub joined_same : spans (take z.blocks joinedAfter) (total (take x.blocks firstAfter)) ≡ false → z.length ≡ x.length + y.length
    joined_same = lengths_same (gives first x-given) (gives second y-given) (gives joined z-given) first-room joined-room

    -- Where one does, it is less by that block's version line and column line at most.
    pub joined_saved : spans (take z.blocks joinedAfter) (total (take x.blocks firstAfter)) ≡ true
        → (L : List Observation) → read (a ++ b) ≡ accepted L
        → x.length + y.length
        ≤ z.length + length (head_text (seam_block (take z.blocks joinedAfter) (total (take x.blocks firstAfter)) L))
    joined_saved = lengths_saved (gives first x-given) (gives second y-given) (gives joined z-given) first-room joined-room
