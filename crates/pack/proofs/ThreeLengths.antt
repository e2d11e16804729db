-- Joining nights costs nothing extra, over three answers of asking the length: of a report, of a second one, and of the bytes of both one after
-- the other. Where each was given a length, the third is at most the first two together; where no block of the joined report spans the seam
-- it is their sum; and where one does, it is less by that block's version line and column line at most. The seam stands after as many rows as
-- the first call's cuts have together, so all of it is in what the three calls gave.
use Prim.Native.Nat.{ℕ, ◌+◌, ◌≤◌}
use mathlib.Core.Path.{◌≡◌, refl, sym, ap, subst, ◌∙◌}
use mathlib.Core.Bool.{true, false}
use mathlib.Core.List.{List, ◌++◌}
use native.Mathlib.Omega.{arith}
use lib.ListN.{length, take}
use Rattle.refusal.specs.Paper.{given}
use Rattle.element.specs.Observation.{Observation}
use Rattle.report.specs.Report.{accepted, read}
use Rattle.cuts.specs.Block.{total}
use Rattle.layout.specs.Written.{written}
use Rattle.layout.specs.Packed.{ShortestCuts, PackedIs}
use Rattle.layout.specs.Seam.{Joinable, spans, seam_block, head_text}
use Rattle.layout.proofs.Joined.{joined_is, joinable}
use Rattle.layout.proofs.SeamLaws.{cuts_total}
use Rattle.layout.proofs.Nights.{no_longer, as_long, saves_at_most}
use Rattle.pack.specs.Promise.{MeasurePromised}
use Rattle.pack.proofs.Pair.{found, cuts_are}

module _ {a b : List ℕ} {firstBefore firstAfter secondBefore secondAfter joinedBefore joinedAfter : List ℕ} {n m k i j blocks : ℕ}
    (first : MeasurePromised a firstBefore firstAfter (given (n, i))) (second : MeasurePromised b secondBefore secondAfter (given (m, j)))
    (joined : MeasurePromised (a ++ b) joinedBefore joinedAfter (given (k, blocks))) where
  abbrev A : List Observation
  A = (found first).observations

  abbrev B : List Observation
  B = (found second).observations

  nights : Joinable a b A B
  nights = joinable a b A B (found joined).observations (found first).is (found second).is (found joined).is

  both_are : (found joined).observations ≡ A ++ B
  both_are = joined_is a b A B (found joined).observations (found first).is (found second).is (found joined).is

  -- The packed reports of the first, of the second and of the join.
  packed_first : PackedIs A (written (found first).cuts A)
  packed_first = record { cuts = (found first).cuts; shortest = (found first).shortest; is = refl }

  packed_second : PackedIs B (written (found second).cuts B)
  packed_second = record { cuts = (found second).cuts; shortest = (found second).shortest; is = refl }

  packed_join : PackedIs (A ++ B) (written (found joined).cuts (A ++ B))
  packed_join = record { cuts = (found joined).cuts; shortest = subst (λ (L : List Observation). ShortestCuts L (found joined).cuts) both_are (found joined).shortest; is = refl }

  -- Their lengths were given.
  join_long : length (written (found joined).cuts (A ++ B)) ≡ k
  join_long = ap (λ (L : List Observation). length (written (found joined).cuts L)) (sym both_are) ∙ (found joined).long

  -- The third length is at most the first two together.
  pub lengths_at_most : k ≤ n + m
  lengths_at_most =
      omega (arith, no_longer nights packed_first packed_second packed_join, (found first).long, (found second).long, join_long)

  -- By the cuts that the first call and the third gave, where each was lent a list with room for them.
  module _ (first-room : i ≤ length firstBefore) (joined-room : blocks ≤ length joinedBefore) where
    -- The seam stands after the rows of the first report.
    abbrev pub seam : ℕ
    seam = total (take i firstAfter)

    -- The cuts of the joined report.
    abbrev pub cuts : List ℕ
    cuts = take blocks joinedAfter

    seam_is : seam ≡ length A
    seam_is = ap total (cuts_are first first-room) ∙ cuts_total (found first).cuts A (found first).shortest.valid

    cuts_is : cuts ≡ packed_join.cuts
    unfolding packed_join
    cuts_is = cuts_are joined joined-room

    -- Where none of its blocks spans the seam, the third length is the first two together.
    pub lengths_same : spans cuts seam ≡ false → k ≡ n + m
    lengths_same none =
        omega (
          arith,
          as_long nights packed_first packed_second packed_join (rw (cuts_is, seam_is) at none),
          (found first).long,
          (found second).long,
          join_long,
        )

    -- Where one does, it is less by that block's version line and column line at most.
    pub lengths_saved : spans cuts seam ≡ true → (L : List Observation) → read (a ++ b) ≡ accepted L
        → n + m ≤ k + length (head_text (seam_block cuts seam L))
    lengths_saved one L h =
        let e : L ≡ A ++ B = joined_is a b A B L (found first).is (found second).is h in
        let rows : seam_block cuts seam L ≡ seam_block packed_join.cuts (length A) (A ++ B) = rw (cuts_is, seam_is, e) refl in
        omega (
          arith,
          saves_at_most nights packed_first packed_second packed_join (rw (cuts_is, seam_is) at one),
          ap (λ (block : List Observation). length (head_text block)) rows,
          (found first).long,
          (found second).long,
          join_long,
        )
