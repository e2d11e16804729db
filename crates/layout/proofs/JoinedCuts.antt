-- The cuts of a packed join, parted at the seam, beside the packed reports of its two parts: p that of the first, q that of the second, and r
-- that of the join.
use Prim.Native.Nat.{ℕ, ◌+◌, ◌≤◌}
use mathlib.Core.Path.{◌≡◌, refl, ap, ap₂, subst, ◌∙◌}
use mathlib.Core.Bool.{false}
use mathlib.Core.List.{List, ◌++◌}
use native.Mathlib.Omega.{arith}
use lib.ListN.{length}
use Rattle.element.specs.Observation.{Observation}
use Rattle.report.specs.Report.{accepted, read}
use Rattle.layout.specs.Written.{written}
use Rattle.layout.specs.Packed.{ShortestCuts, PackedIs}
use Rattle.layout.specs.Seam.{Joinable, spans}
use Rattle.layout.proofs.Accepted.{accepted_right}
use Rattle.layout.proofs.ReadsBack.{reads_back_shorter}
use Rattle.layout.proofs.Unique.{unique, packed_least}
use Rattle.layout.proofs.Packed.{least_written}
use Rattle.layout.proofs.SeamLaws.{seam_bytes, Parted, parted}
use Rattle.layout.proofs.TurnLaws.{written_append, first_last, second_last}

module _ {a b : List ℕ} {A B : List Observation} (nights : Joinable a b A B) (joined : read (a ++ b) ≡ accepted (A ++ B))
    {p q r : List ℕ} (packed_first : PackedIs A p) (packed_second : PackedIs B q) (Packed-join : PackedIs (A ++ B) r) where
  at_seam : Parted Packed-join.cuts A B
  at_seam = parted Packed-join.cuts A B Packed-join.shortest.valid (accepted_right (a ++ b) (A ++ B) joined)

  -- However the parts are cut, they are no shorter than packed.
  first_least : length p ≤ length (written at_seam.first A)
  first_least = least_written a A nights.first packed_first at_seam.first at_seam.first_valid

  second_least : length q ≤ length (written at_seam.second B)
  second_least = least_written b B nights.second packed_second at_seam.second at_seam.second_valid

  -- So packed they are together no longer than the join, but for the lines that a block which spans the seam then has twice.
  pub cut_in_two : length p + length q ≤ length r + seam_bytes Packed-join.cuts (length A) (A ++ B)
  cut_in_two = omega (arith, ap (λ (text : List ℕ). length text) Packed-join.is, at_seam.bytes, first_least, second_least)

  -- Where no block spans the seam, and the join is no longer than they are, its cuts on either side are theirs.
  module _ (none : spans Packed-join.cuts (length A) ≡ false) (short : length r ≤ length p + length q) where
    parts_short : length (written at_seam.first A) + length (written at_seam.second B) ≤ length p + length q
    parts_short = omega (arith, ap (λ (text : List ℕ). length text) Packed-join.is, short, rw none at at_seam.bytes)

    both : ShortestCuts (A ++ B) (at_seam.first ++ at_seam.second)
    both = subst (λ (cuts : List ℕ). ShortestCuts (A ++ B) cuts) (at_seam.in_turn none) Packed-join.shortest

    first_shortest : ShortestCuts A at_seam.first
    first_shortest = record {
      valid = at_seam.first_valid;
      reads =
          reads_back_shorter a A at_seam.first nights.first at_seam.first_valid
          (omega (arith, parts_short, second_least, packed_least packed_first a nights.first));
      least = λ other h. omega (arith, parts_short, second_least, packed_least packed_first other h);
      last = first_last A B at_seam.first at_seam.second both at_seam.first_valid at_seam.second_valid;
    }

    second_shortest : ShortestCuts B at_seam.second
    second_shortest = record {
      valid = at_seam.second_valid;
      reads =
          reads_back_shorter b B at_seam.second nights.second at_seam.second_valid
          (omega (arith, parts_short, first_least, packed_least packed_second b nights.second));
      least = λ other h. omega (arith, parts_short, first_least, packed_least packed_second other h);
      last = second_last A B at_seam.first at_seam.second both at_seam.first_valid at_seam.second_valid;
    }

    -- So it is the one and then the other.
    pub one_then_other : r ≡ p ++ q
    one_then_other =
        Packed-join.is
        ∙ ap (λ (cuts : List ℕ). written cuts (A ++ B)) (at_seam.in_turn none)
        ∙ written_append at_seam.first at_seam.second A B at_seam.first_valid
        ∙ ap₂ (λ (one other : List ℕ). one ++ other)
        (unique A (written at_seam.first A) p (record { cuts = at_seam.first; shortest = first_shortest; is = refl }) packed_first)
        (unique B (written at_seam.second B) q (record { cuts = at_seam.second; shortest = second_shortest; is = refl }) packed_second)
