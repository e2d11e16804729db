-- The specimen joined to itself is packed in one block, which spans the seam, and what is saved is that block's version line and column line:
-- no smaller bound holds.
use Prim.Native.Nat.{ℕ, zero, suc, ◌+◌, ◌≤◌}
use mathlib.Core.Path.{◌≡◌, refl, ap, ◌∙◌}
use mathlib.Core.Bool.{true}
use mathlib.Core.List.{List, [], ◌∷◌}
use native.Mathlib.Omega.{arith}
use lib.ListN.{length}
use Rattle.element.specs.Observation.{Observation}
use Rattle.report.specs.Report.{accepted, read}
use Rattle.report.specs.Specimen.{specimen, specimen_observation}
use Rattle.report.proofs.Computed.{reading}
use Rattle.cuts.specs.Block.{total}
use Rattle.layout.specs.Written.{written, Valid}
use Rattle.layout.specs.Packed.{PackedIs}
use Rattle.layout.specs.Seam.{spans, seam_block, head_text}
use Rattle.layout.proofs.Computed.{writing}
use Rattle.layout.proofs.Unique.{packed_least}
use Rattle.layout.proofs.SeamLaws.{cuts_total}

-- The specimen's observation twice.
abbrev twice : List Observation
twice = specimen_observation ∷ specimen_observation ∷ []

-- Written in one block it reads back, in 155 bytes.
one_block_reads : read (written (2 ∷ []) twice) ≡ accepted twice
unfolding reading writing
one_block_reads = refl

one_block_long : length (written (2 ∷ []) twice) ≡ 155
unfolding writing
one_block_long = refl

-- In two it takes 208.
two_blocks_long : length (written (1 ∷ 1 ∷ []) twice) ≡ 208
unfolding writing
two_blocks_long = refl

-- So of the two ways to cut it only the first is as short.
two_cuts : (cuts : List ℕ) → Valid cuts twice → length (written cuts twice) ≤ 155 → cuts ≡ 2 ∷ []
unfolding total
two_cuts [] v n = absurd v
two_cuts (zero ∷ ks) v n = absurd v
two_cuts (suc zero ∷ []) v n = absurd v.1
two_cuts (suc zero ∷ zero ∷ ks) v n = absurd v.1
two_cuts (suc zero ∷ suc zero ∷ []) v n = absurd (omega (arith, two_blocks_long))
two_cuts (suc zero ∷ suc zero ∷ k ∷ ks) v n = absurd v.1.1
two_cuts (suc zero ∷ suc (suc k) ∷ ks) v n = absurd (omega (arith, cuts_total (1 ∷ suc (suc k) ∷ ks) twice v))
two_cuts (suc (suc zero) ∷ []) v n = refl
two_cuts (suc (suc zero) ∷ k ∷ ks) v n = absurd v.1
two_cuts (suc (suc (suc k)) ∷ ks) v n = absurd (omega (arith, cuts_total (suc (suc (suc k)) ∷ ks) twice v))

-- The bound of `saves_at_most` is met exactly.
pub bound_met : (r : List ℕ) (p : PackedIs twice r) → (spans p.cuts 1 ≡ true)
    × (length specimen + length specimen ≡ length r + length (head_text (seam_block p.cuts 1 twice)))
unfolding spans seam_block head_text writing
bound_met r p =
    let n : length (written p.cuts twice) ≤ 155 =
    omega (arith, ap (λ (text : List ℕ). length text) p.is, packed_least p (written (2 ∷ []) twice) one_block_reads, one_block_long) in
    let e : p.cuts ≡ 2 ∷ [] = two_cuts p.cuts p.shortest.valid n in
    let l : length r ≡ 155 = ap (λ (text : List ℕ). length text) p.is ∙ (ap (λ (cuts : List ℕ). length (written cuts twice)) e ∙ one_block_long) in
    (rw e refl, rw (e, l) refl)
