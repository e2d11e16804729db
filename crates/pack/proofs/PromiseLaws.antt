-- Laws of the promises: what a refused report, cuts that are given, cuts that differ, and a plan with and without room come to.
use Prim.Native.Nat.{ℕ, ◌≤◌, ◌<◌}
use mathlib.Core.Path.{◌≡◌, refl, sym, ap, ◌∙◌}
use mathlib.Core.Bool.{Bool, true, false, true≢false}
use mathlib.Core.List.{List}
use native.Mathlib.Omega.{arith}
use lib.ListN.{length, take}
use borrow.Author.Tests.{le-leb, lt-leb}
use Rattle.text.specs.Part.{same}
use Rattle.text.proofs.Outputs.{put_room, put_none}
use Rattle.text.proofs.Bools.{bools}
use Rattle.text.proofs.Parts.{same_refl, same_is}
use Rattle.refusal.specs.Paper.{paper, Answer, refused_by, given, request}
use Rattle.refusal.specs.declared.Kind.TheVariants.{OutputTooShort, CutsDiffer}
use Rattle.element.specs.Observation.{Observation}
use Rattle.report.specs.Report.{accepted, read}
use Rattle.report.specs.declared.index.Row.{Row}
use Rattle.layout.specs.Written.{written}
use Rattle.cuts.specs.declared.Plan.{Plan}
use Rattle.pack.specs.Promise.{WrittenAs, WritePromised}
use Rattle.pack.specs.Inner.{observed, Wrote, BlocksAsk, CutIs}

-- ---- whether two lists are the same

-- What the test says of two lists of numbers.
module _ (a b : List ℕ) (r : Bool) (e : r ≡ same a b) where
  pub not_same : r ≡ false → a ≡ b → ⊥
  not_same f s = true≢false (sym (same_refl b) ∙ ap (λ l. same l b) (sym s) ∙ sym e ∙ f)

  pub are_same : r ≡ true → a ≡ b
  are_same t = same_is a b (sym e ∙ t)

-- ---- the promises

-- The promise of an accepted report.
pub write_accepted : {report handed before after : List ℕ} {answer : Answer ℕ} {L : List Observation} → read report ≡ accepted L
    → WrittenAs L handed before after answer → WritePromised report handed before after answer
write_accepted e p = record { case = rw e p }

module _ {report : List ℕ} {index : List Row} {cuts : List ℕ} {plan : Plan} (c : CutIs report index cuts plan) where
  module _ (handed output : List ℕ) where
    abbrev text : List ℕ
    text = written (take plan.blocks cuts) (observed report)

    -- Other cuts are refused, and nothing is written.
    pub cuts_differ : (handed ≡ take plan.blocks cuts → ⊥) → WritePromised report handed output output (refused_by (paper (request CutsDiffer)))
    cuts_differ n =
        bools (same handed (take plan.blocks cuts)) (λ e. absurd (n (same_is handed (take plan.blocks cuts) e)))
        (λ e. write_accepted c.is (record { cuts = take plan.blocks cuts; shortest = c.shortest; answer_is = rw e refl; output_is = rw e refl }))

    module _ (e : handed ≡ take plan.blocks cuts) where
      right : same handed (take plan.blocks cuts) ≡ true
      right = rw e (same_refl (take plan.blocks cuts))

      -- So is an output that has no room.
      pub too_short : length output < plan.bytes → WritePromised report handed output output (refused_by (paper (request OutputTooShort)))
      too_short h =
          let short : length output < length text = omega (arith, c.bytes_are) in
          write_accepted c.is (record {
            cuts = take plan.blocks cuts;
            shortest = c.shortest;
            answer_is = rw (right, lt-leb (length text) (length output) short) refl;
            output_is = rw right (sym (put_none text output short).1);
          })

      module _ (h : plan.bytes ≤ length output) where
        -- The packed report can be written by them.
        pub plan_asks : BlocksAsk report index handed output
        plan_asks = rw e (record { indexed = c.indexed; valid = c.shortest.valid; room = omega (arith, c.bytes_are) })

        -- It is written.
        pub plan_written : {after : List ℕ} {m : ℕ} → Wrote (written handed (observed report)) output after m → WritePromised report handed output after (given m)
        plan_written w =
            let room : length text ≤ length output = omega (arith, c.bytes_are) in
            let v : Wrote text output _ _ = rw e at w in
            write_accepted c.is (record {
              cuts = take plan.blocks cuts;
              shortest = c.shortest;
              answer_is = rw (right, le-leb (length text) (length output) room) (ap given v.answer_is);
              output_is = rw right (v.output_is ∙ sym (put_room text output room).1);
            })
