-- Joining nights costs nothing extra. Two accepted reports, a with the observations A and b with the observations B, whose bytes one after the
-- other are within both limits, are a report of both lists. Its packed report is no longer than the two packed reports together. Where none of
-- its blocks spans the seam it is as long as they are, and is the one and then the other; where one does, it is shorter by that block's version
-- line and column line at most.
use Prim.Native.Nat.{ℕ, ◌+◌, ◌≤◌}
use mathlib.Core.Path.{◌≡◌, refl, ap, ◌∙◌}
use mathlib.Core.Bool.{true, false}
use mathlib.Core.List.{List, ◌++◌}
use native.Mathlib.Omega.{arith}
use lib.ListN.{length, length-append}
use Rattle.element.specs.Observation.{Observation}
use Rattle.report.specs.Report.{text_limit, accepted, read}
use Rattle.report.proofs.Join.{join}
use Rattle.layout.specs.Packed.{PackedIs}
use Rattle.layout.specs.Seam.{Joinable, spans, seam_block, head_text}
use Rattle.layout.proofs.Packed.{has_cuts}
use Rattle.layout.proofs.Unique.{packed_reads, packed_least}
use Rattle.layout.proofs.JoinedCuts.{cut_in_two, one_then_other}

-- Every accepted report has a packed one: nothing that follows is said of nothing.
pub has_packed : (t : List ℕ) (L : List Observation) → read t ≡ accepted L → (text : List ℕ) × PackedIs L text
has_packed t L h = (_, record { cuts = _; shortest = has_cuts t L h; is = refl })

module _ {a b : List ℕ} {A B : List Observation} (nights : Joinable a b A B) where
  -- The join is a report: the observations of the first, and then those of the second.
  pub joined : read (a ++ b) ≡ accepted (A ++ B)
  joined = join a b A B nights.first nights.second nights.bytes nights.rows

  -- p is the packed report of the first, q that of the second, and r that of the join.
  module _ {p q r : List ℕ} (packed_first : PackedIs A p) (packed_second : PackedIs B q) (Packed-join : PackedIs (A ++ B) r) where
    -- The packed join is at most as long as the two packed reports together.
    pub no_longer : length r ≤ length p + length q
    no_longer =
        let within : length (p ++ q) ≤ text_limit =
        omega (
          arith,
          length-append p q,
          length-append a b,
          nights.bytes,
          packed_least packed_first a nights.first,
          packed_least packed_second b nights.second,
        ) in
        let reads : read (p ++ q) ≡ accepted (A ++ B) = join p q A B (packed_reads packed_first) (packed_reads packed_second) within nights.rows in
        omega (arith, packed_least Packed-join (p ++ q) reads, length-append p q)

    -- Where none of its blocks spans the seam, it is the one and then the other,
    pub in_turn : spans Packed-join.cuts (length A) ≡ false → r ≡ p ++ q
    in_turn none = one_then_other nights joined packed_first packed_second Packed-join none no_longer

    -- so it is as long as they are together.
    pub as_long : spans Packed-join.cuts (length A) ≡ false → length r ≡ length p + length q
    as_long none = ap (λ (text : List ℕ). length text) (in_turn none) ∙ length-append p q

    -- Where one does, what is saved is at most that block's version line and column line.
    pub saves_at_most : spans Packed-join.cuts (length A) ≡ true
        → length p + length q ≤ length r + length (head_text (seam_block Packed-join.cuts (length A) (A ++ B)))
    saves_at_most one = rw one at (cut_in_two nights joined packed_first packed_second Packed-join)
