-- The sham packers of document 01, and one of document 02's order 3: for each a report, the cuts that the first call gives for it, and an
-- output where it does not keep the promise of writing.
use Prim.Native.Nat.{ℕ, ◌≤◌}
use mathlib.Core.Path.{◌≡◌, refl, sym, ap, ◌∙◌}
use mathlib.Core.List.{List, [], ◌∷◌, map}
use native.Mathlib.Omega.{arith}
use lib.ListN.{length, take, drop, get_or, replicate}
use lib.Seq.{take_at}
use borrow.Author.Tests.{le-leb, leb-true}
use Rattle.text.specs.Output.{has_room, over, put_over}
use Rattle.text.proofs.Bools.{bools}
use Rattle.text.proofs.Outputs.{put_room}
use Rattle.refusal.specs.Paper.{paper, Answer, refused_by, given, request}
use Rattle.refusal.specs.declared.Kind.TheVariants.{OutputTooShort}
use Rattle.element.specs.Observation.{Observation}
use Rattle.report.specs.Report.{accepted, read}
use Rattle.report.specs.Specimen.{specimen, specimen_observation}
use Rattle.cuts.specs.Plan.{marked_bytes}
use Rattle.cuts.specs.Cheapest.{chosen}
use Rattle.layout.specs.Packed.{ShortestCuts}
use Rattle.layout.specs.Written.{written}
use Rattle.layout.specs.Cost.{as_marked}
use Rattle.layout.proofs.Packed.{together, has_cuts}
use Rattle.layout.proofs.SpecimenPacks.{one_packs, specimen_reads}
use Rattle.layout.proofs.Shams as Texts
use Rattle.pack.specs.Promise.{packed_answer, WritePromised}
use Rattle.pack.proofs.Unique.{refused≢given}
use Rattle.pack.proofs.Settled.{right_settled, specimen_written}

-- A sham takes the report, the cuts and the output, and gives the output after and the answer.
abbrev pub Sham : Type 0
Sham = List ℕ → List ℕ → List ℕ → List ℕ × Answer ℕ

-- A report, its cuts, and an output where the sham, handed them, does not keep the promise.
pub record Caught (sham : Sham) : Type 0 where
  pub report : List ℕ
  pub observations : List Observation
  pub reads : read report ≡ accepted observations
  pub cuts : List ℕ
  pub shortest : ShortestCuts observations cuts
  pub output : List ℕ
  pub fails : WritePromised report cuts output (sham report cuts output).0 (sham report cuts output).1 → ⊥

-- The sham that writes a text made of the report as the packed report is to be written: over the start of the output where there is room.
abbrev pub writer : (List ℕ → List ℕ) → Sham
writer text report cuts output = (put_over (text report) output, packed_answer (text report) output)

-- Two texts written alike over an output with room for one of them are the same text.
same_text : (text other output : List ℕ) → length text ≤ length output → packed_answer text output ≡ packed_answer other output
    → put_over text output ≡ put_over other output → text ≡ other
unfolding over
same_text text other output h a e =
    bools (has_room other output)
    (λ b.
    let l : ◌≡◌ {A = Answer ℕ} (given (length text)) (given (length other)) = rw (le-leb (length text) (length output) h, b) at a in
    let n : length text ≡ length other = cc in
    let w : over text output ≡ over other output =
    sym (put_room text output h).1 ∙ (e ∙ (put_room other output (leb-true _ _ b)).1) in
    sym (take_at text (drop (length text) output) (length text) refl)
    ∙ (ap (λ (x : List ℕ). take (length text) x) w ∙ take_at other (drop (length other) output) (length text) (sym n)))
    (λ b.
    let l : ◌≡◌ {A = Answer ℕ} (given (length text)) (refused_by (paper (request OutputTooShort))) =
    rw (le-leb (length text) (length output) h, b) at a in
    absurd (refused≢given (paper (request OutputTooShort)) (length text) (sym l)))

-- One whose text is not the packed report is caught at an output with room for the text.
writer_caught : (text : List ℕ → List ℕ) → Texts.Caught text → Caught (writer text)
writer_caught text caught =
    let L : List Observation = caught.observations in
    let sham : List ℕ = text caught.report in
    let cuts : List ℕ = chosen marked_bytes together (map as_marked L) in
    let shortest : ShortestCuts L cuts = has_cuts caught.report L caught.reads in
    record {
      report = caught.report;
      observations = L;
      reads = caught.reads;
      cuts = cuts;
      shortest = shortest;
      output = sham;
      fails = λ p.
          let s = right_settled caught.reads shortest p in
          caught.fails (record { cuts = cuts; shortest = shortest; is = same_text sham (written cuts L) sham (omega arith) s.0 s.1 });
    }

-- Hands back the specimen always.
pub specimen_always_lem : Caught (writer Texts.specimen_always)
specimen_always_lem = writer_caught _ Texts.specimen_always_lem

-- Writes nothing.
pub nothing_written_lem : Caught (writer Texts.nothing_written)
nothing_written_lem = writer_caught _ Texts.nothing_written_lem

-- Copies its input.
pub input_copied_lem : Caught (writer Texts.input_copied)
input_copied_lem = writer_caught _ Texts.input_copied_lem

-- Lays out the first block well and copies the remaining rows under it.
pub copied_under_lem : Caught (writer Texts.copied_under)
copied_under_lem = writer_caught _ Texts.copied_under_lem

-- Lays out the first block well and copies the remaining rows in blocks as they came.
pub copied_blocks_lem : Caught (writer Texts.copied_blocks)
copied_blocks_lem = writer_caught _ Texts.copied_blocks_lem

-- Joins kinds: puts every row into one block.
pub kinds_joined_lem : Caught (writer Texts.kinds_joined)
kinds_joined_lem = writer_caught _ Texts.kinds_joined_lem

-- Leaves the output alone, whatever it answers: over 104 zero bytes the specimen is written.
pub output_left_alone : (answer : List ℕ → List ℕ → List ℕ → Answer ℕ)
    → Caught (λ report cuts output. (output, answer report cuts output))
unfolding over
output_left_alone answer = record {
  report = specimen;
  observations = specimen_observation ∷ [];
  reads = specimen_reads;
  cuts = 1 ∷ [];
  shortest = one_packs specimen specimen_observation specimen_reads;
  output = replicate 104 0;
  fails = λ p. let z : ◌≡◌ {A = ℕ} 0 35 = ap (λ (x : List ℕ). get_or x 0 0) (specimen_written p (omega arith)).1 in omega arith;
}
