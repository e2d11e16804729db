-- What the promises come to where the cuts of a report are known: so the specimen packs to itself, and the empty report to nothing.
use Prim.Native.Nat.{ℕ, ◌≤◌, ◌<◌}
use mathlib.Core.Path.{◌≡◌, ap, ◌∙◌}
use mathlib.Core.List.{List, [], ◌∷◌}
use native.Mathlib.Omega.{arith}
use lib.ListN.{length}
use borrow.Author.Tests.{le-leb, lt-leb}
use Rattle.text.specs.Output.{over, put_over}
use Rattle.text.specs.Part.{same}
use Rattle.text.proofs.Outputs.{put_room, put_none}
use Rattle.text.proofs.Parts.{same_refl}
use Rattle.refusal.specs.Paper.{Answer, refused_by, given}
use Rattle.element.specs.Observation.{Observation}
use Rattle.report.specs.Report.{accepted, read}
use Rattle.report.specs.Specimen.{specimen, specimen_observation}
use Rattle.layout.specs.Packed.{ShortestCuts}
use Rattle.layout.specs.Written.{written}
use Rattle.layout.proofs.Unique.{cuts_unique}
use Rattle.layout.proofs.Empty.{empty_cuts}
use Rattle.layout.proofs.ReadsBack.{empty_reads}
use Rattle.layout.proofs.SpecimenPacks.{one_packs, specimen_reads, specimen_is}
use Rattle.pack.specs.Promise.{MeasuredAs, MeasurePromised, packed_answer, written_answer, written_over, WrittenAs, WritePromised}

-- Of an accepted report whose cuts are known, the promises come to their answers, the list and the output.
module _ {report : List ℕ} {L : List Observation} {cuts : List ℕ} (e : read report ≡ accepted L) (k : ShortestCuts L cuts) where
  pub measure_settled : {before after : List ℕ} {answer : Answer (ℕ × ℕ)} → MeasurePromised report before after answer
      → (answer ≡ given (length (written cuts L), length cuts)) × (after ≡ put_over cuts before)
  measure_settled {before} p =
      let c : MeasuredAs L before _ _ = rw e at p.case in
      let s : c.cuts ≡ cuts = cuts_unique L c.cuts cuts c.shortest k in (
        c.answer_is ∙ ap (λ (x : List ℕ). given (length (written x L), length x)) s,
        c.list_is ∙ ap (λ (x : List ℕ). put_over x before) s,
      )

  -- Handed any cuts.
  pub write_settled : {handed before after : List ℕ} {answer : Answer ℕ} → WritePromised report handed before after answer
      → (answer ≡ written_answer (same handed cuts) (written cuts L) before) × (after ≡ written_over (same handed cuts) (written cuts L) before)
  write_settled {handed} {before} p =
      let c : WrittenAs L handed before _ _ = rw e at p.case in
      let s : c.cuts ≡ cuts = cuts_unique L c.cuts cuts c.shortest k in (
        c.answer_is ∙ ap (λ (x : List ℕ). written_answer (same handed x) (written x L) before) s,
        c.output_is ∙ ap (λ (x : List ℕ). written_over (same handed x) (written x L) before) s,
      )

  -- Handed these.
  pub right_settled : {before after : List ℕ} {answer : Answer ℕ} → WritePromised report cuts before after answer
      → (answer ≡ packed_answer (written cuts L) before) × (after ≡ put_over (written cuts L) before)
  right_settled p = rw (same_refl cuts) at (write_settled p)

-- The specimen has one block of 104 bytes.
pub specimen_measured : {before after : List ℕ} {answer : Answer (ℕ × ℕ)} → MeasurePromised specimen before after answer
    → (answer ≡ given (104, 1)) × (after ≡ put_over (1 ∷ []) before)
specimen_measured p = rw specimen_is at (measure_settled specimen_reads (one_packs specimen specimen_observation specimen_reads) p)

module _ {before after : List ℕ} {answer : Answer ℕ} (p : WritePromised specimen (1 ∷ []) before after answer) where
  specimen_settled : (answer ≡ packed_answer specimen before) × (after ≡ put_over specimen before)
  specimen_settled = rw specimen_is at (right_settled specimen_reads (one_packs specimen specimen_observation specimen_reads) p)

  -- It packs to itself where the output has room for its 104 bytes.
  pub specimen_written : 104 ≤ length before → (answer ≡ given 104) × (after ≡ over specimen before)
  specimen_written h =
      (specimen_settled.0 ∙ rw (le-leb 104 (length before) h), specimen_settled.1 ∙ (put_room specimen before h).1)

  -- One byte less is 15, and the output stays.
  pub specimen_short : length before < 104 → (answer ≡ refused_by (record { number = 15; line = 0; place = 0 })) × (after ≡ before)
  specimen_short h =
      (specimen_settled.0 ∙ rw (lt-leb 104 (length before) h), specimen_settled.1 ∙ (put_none specimen before h).1)

-- The empty report has no block, and no cut is written.
pub empty_measured : {before after : List ℕ} {answer : Answer (ℕ × ℕ)} → MeasurePromised [] before after answer
    → (answer ≡ given (0, 0)) × (after ≡ before)
unfolding over written
empty_measured {before} p =
    let s = measure_settled empty_reads empty_cuts p in (s.0, s.1 ∙ (put_room [] before (omega arith)).1)

-- Packing it writes nothing.
pub empty_written : {before after : List ℕ} {answer : Answer ℕ} → WritePromised [] [] before after answer → (answer ≡ given 0) × (after ≡ before)
unfolding over written
empty_written {before} p =
    let s = right_settled empty_reads empty_cuts p in
    (s.0 ∙ rw (le-leb 0 (length before) (omega arith)), s.1 ∙ (put_room [] before (omega arith)).1)
