-- The two calls together. Handed the cuts that the first gave for a report, the second writes its packed report: it answers 15 exactly where
-- the output is shorter than the length that the first gave, and never 24. Handed any other cuts it answers 24.
use Prim.Native.Nat.{ℕ, zero, suc, ◌≤◌, ◌<◌}
use mathlib.Core.Path.{◌≡◌, refl, sym, ap, ◌∙◌}
use mathlib.Core.Bool.{true}
use mathlib.Core.List.{List, [], ◌∷◌}
use native.Mathlib.Omega.{arith}
use lib.ListN.{length, take, drop, length-drop}
use lib.Seq.{take_at}
use borrow.Author.Tests.{leb-false, lt-leb}
use Rattle.text.specs.Output.{has_room, over, put_over}
use Rattle.text.specs.Part.{same}
use Rattle.text.proofs.Bools.{bools}
use Rattle.text.proofs.Outputs.{put_room}
use Rattle.text.proofs.Parts.{same_refl, same_is}
use Rattle.refusal.specs.Paper.{Paper, paper, Answer, refused_by, given, request}
use Rattle.refusal.specs.declared.Kind.TheVariants.{OutputTooShort, CutsDiffer}
use Rattle.element.specs.Observation.{Observation}
use Rattle.report.specs.Report.{Outcome, accepted, refused, read, row_limit}
use Rattle.layout.specs.Packed.{ShortestCuts}
use Rattle.layout.specs.Written.{written, Valid}
use Rattle.layout.proofs.Accepted.{accepted_rows}
use Rattle.pack.specs.Promise.{MeasureCase, MeasurePromised, written_answer, written_over, WritePromised, PackedInto}
use Rattle.pack.proofs.Unique.{refused≢given}
use Rattle.pack.proofs.Settled.{write_settled}

-- What the first call gave: the length and the number of cuts of a packed report, and these cuts.
pub record Gave (outcome : Outcome) (before after : List ℕ) (n blocks : ℕ) : Type 0 where
  pub observations : List Observation
  pub is : outcome ≡ accepted observations
  pub cuts : List ℕ
  pub shortest : ShortestCuts observations cuts
  pub long : length (written cuts observations) ≡ n
  pub many : length cuts ≡ blocks
  pub list_is : after ≡ put_over cuts before

-- That follows from its promise, where it gave a length.
gave : (outcome : Outcome) {before after : List ℕ} {n blocks : ℕ} → MeasureCase outcome before after (given (n, blocks)) → Gave outcome before after n blocks
gave (accepted L) {n = n} {blocks = blocks} p =
    let e : ◌≡◌ {A = ℕ × ℕ} (n, blocks) (length (written p.cuts L), length p.cuts) = cc in
    record {
      observations = L;
      is = refl;
      cuts = p.cuts;
      shortest = p.shortest;
      long = sym (ap (λ (pair : ℕ × ℕ). pair.0) e);
      many = sym (ap (λ (pair : ℕ × ℕ). pair.1) e);
      list_is = p.list_is;
    }
gave (refused x) {n = n} {blocks = blocks} p = absurd (refused≢given (paper x) (n, blocks) (sym p.answer_is))

-- There are no more cuts than rows.
cuts_few : (cuts : List ℕ) (L : List Observation) → Valid cuts L → length cuts ≤ length L
cuts_few [] L v = omega arith
cuts_few (k ∷ ks) [] v = absurd v
cuts_few (zero ∷ ks) (o ∷ os) v = absurd v
cuts_few (suc k ∷ ks) (o ∷ os) v = omega (arith, cuts_few ks (drop k os) v.1, length-drop k os)

module _ {report list listed : List ℕ} {n blocks : ℕ} (first : MeasurePromised report list listed (given (n, blocks))) where
  pub found : Gave (read report) list listed n blocks
  found = gave (read report) first.case

  -- The packed report is no longer than the report, and has no more blocks than a report can have rows: a list of so many numbers always has
  -- room for the cuts.
  pub always_room : (n ≤ length report) × (blocks ≤ row_limit)
  always_room =
      let L : List Observation = found.observations in (
        omega (arith, found.shortest.least report found.is, found.long),
        omega (arith, cuts_few found.cuts L found.shortest.valid, accepted_rows report L found.is, found.many),
      )

module _ {report list listed : List ℕ} {n blocks : ℕ} (first : MeasurePromised report list listed (given (n, blocks))) (room : blocks ≤ length list) where
  abbrev gave_first : Gave (read report) list listed n blocks
  gave_first = found first

  -- The list begins with the cuts.
  pub cuts_are : take blocks listed ≡ gave_first.cuts
  unfolding over
  cuts_are =
      let cuts : List ℕ = gave_first.cuts in
      ap (λ (l : List ℕ). take blocks l) (gave_first.list_is ∙ (put_room cuts list (omega (arith, gave_first.many))).1)
      ∙ take_at cuts (drop (length cuts) list) blocks gave_first.many

  module _ {handed before after : List ℕ} {answer : Answer ℕ} (second : WritePromised report handed before after answer) where
    abbrev text : List ℕ
    text = written gave_first.cuts gave_first.observations

    -- What the second call promises, by whether these cuts were handed in.
    wrote : (answer ≡ written_answer (same handed gave_first.cuts) text before) × (after ≡ written_over (same handed gave_first.cuts) text before)
    wrote = write_settled gave_first.is gave_first.shortest second

    -- Handed the cuts that the first call gave, it writes the packed report, whose length the first call gave.
    pub pair : handed ≡ take blocks listed → PackedInto report n before after answer
    pair h =
        let s : same handed gave_first.cuts ≡ true = rw (h ∙ cuts_are) (same_refl gave_first.cuts) in
        record {
          observations = gave_first.observations;
          is = gave_first.is;
          text = text;
          packed = record { cuts = gave_first.cuts; shortest = gave_first.shortest; is = refl };
          long = gave_first.long;
          answer_is = rw s at wrote.0;
          output_is = rw s at wrote.1;
        }

    -- Handed any others, it answers 24 and writes nothing.
    pub others_differ : (handed ≡ take blocks listed → ⊥) → (answer ≡ refused_by (paper (request CutsDiffer))) × (after ≡ before)
    others_differ h =
        bools (same handed gave_first.cuts) (λ e. absurd (h (same_is handed gave_first.cuts e ∙ sym cuts_are)))
        (λ e. (rw e at wrote.0, rw e at wrote.1))

module _ {report : List ℕ} {n : ℕ} {before after : List ℕ} {answer : Answer ℕ} (p : PackedInto report n before after answer) where
  -- 15 where the output is shorter than the length that the first call gave, and then nothing is written.
  pub short_is : length before < n → answer ≡ refused_by (paper (request OutputTooShort))
  short_is h = p.answer_is ∙ rw (lt-leb (length p.text) (length before) (omega (arith, p.long))) refl

  -- And only there.
  pub only_short : answer ≡ refused_by (paper (request OutputTooShort)) → length before < n
  only_short e =
      bools (has_room p.text before)
      (λ b. absurd (refused≢given (paper (request OutputTooShort)) (length p.text) (sym e ∙ rw b at p.answer_is)))
      (λ b. omega (arith, leb-false (length p.text) (length before) b, p.long))

  -- Never 24.
  pub never_differ : answer ≡ refused_by (paper (request CutsDiffer)) → ⊥
  never_differ e =
      bools (has_room p.text before)
      (λ b. absurd (refused≢given (paper (request CutsDiffer)) (length p.text) (sym e ∙ rw b at p.answer_is)))
      (λ b.
      let g : ◌≡◌ {A = Answer ℕ} (refused_by (paper (request OutputTooShort))) (refused_by (paper (request CutsDiffer))) = sym (rw b at p.answer_is) ∙ e in
      let k : paper (request OutputTooShort) ≡ paper (request CutsDiffer) = cc in
      absurd (let z : ◌≡◌ {A = ℕ} 15 24 = ap (λ (x : Paper). x.number) k in omega arith))
