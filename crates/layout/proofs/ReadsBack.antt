-- Accepted observations, written by any cuts, read back as themselves.
use Prim.Native.Nat.{ℕ, zero, suc, ◌≤◌}
use mathlib.Core.Path.{◌≡◌, refl, ap, ◌∙◌}
use mathlib.Core.Bool.{Bool, true, false}
use mathlib.Core.List.{List, [], ◌∷◌, ◌++◌}
use native.Mathlib.Omega.{arith}
use lib.Dec.{eqb}
use borrow.Author.Tests.{eqb-true}
use lib.ListN.{length, take, drop, length-append, length-take, length-drop, take-append-drop}
use Rattle.element.specs.Observation.{Observation, is_radar, bit}
use Rattle.text.proofs.Bools.{bools}
use Rattle.cuts.specs.Cuts.{stretch}
use Rattle.report.specs.Report.{text_limit, row_limit, accepted, read_from, read}
use Rattle.report.proofs.Join.{join, read_accepted}
use Rattle.layout.specs.Written.{block_text, written, mark_of, Valid}
use Rattle.layout.proofs.Accepted.{AllRight, right_take, right_drop, accepted_right, accepted_rows}
use Rattle.layout.proofs.BlockReads.{AllOfKind, block_reads}

-- The empty text is a report of no observations.
pub empty_reads : read [] ≡ accepted []
unfolding read read_from
empty_reads = refl

-- Kinds of one mark are one kind.
bit_kind : (a b : Bool) → bit a ≡ bit b → a ≡ b
bit_kind true true e = refl
bit_kind true false e = absurd (omega arith)
bit_kind false true e = absurd (omega arith)
bit_kind false false e = refl

-- The first rows of a stretch of one mark are of one kind.
stretch_kind : (radar : Bool) (k : ℕ) (os : List Observation) → k ≤ stretch mark_of (bit radar) os → AllOfKind radar (take k os)
unfolding stretch
stretch_kind radar zero os h = tt
stretch_kind radar (suc k) [] h = absurd (omega arith)
stretch_kind radar (suc k) (o ∷ os) h =
    bools (eqb (mark_of o) (bit radar))
    (λ e. (bit_kind (is_radar o) radar (eqb-true (mark_of o) (bit radar) e), stretch_kind radar k os (omega (arith, rw e at h))))
    (λ e. absurd (omega (arith, rw e at h)))

-- Right observations within the limits, written by any cuts, read back.
right_reads : (cuts : List ℕ) (L : List Observation) → Valid cuts L → AllRight L → length L ≤ row_limit → length (written cuts L) ≤ text_limit
    → read (written cuts L) ≡ accepted L
unfolding written
right_reads [] [] v r few short = empty_reads
right_reads [] (o ∷ os) v r few short = absurd v
right_reads (k ∷ ks) [] v r few short = absurd v
right_reads (zero ∷ ks) (o ∷ os) v r few short = absurd v
right_reads (suc k ∷ ks) (o ∷ os) v r few short =
    let e : o ∷ (take k os ++ drop k os) ≡ o ∷ os = ap (λ (x : List Observation). o ∷ x) (take-append-drop k os) in
    let n = length-append (block_text (o ∷ take k os)) (written ks (drop k os)) in
    let first = block_reads o (take k os) (r.0, right_take k os r.1) (stretch_kind (is_radar o) k os v.0) (omega (arith, length-take k os)) (omega arith) in
    let rest = right_reads ks (drop k os) v.1 (right_drop k os r.1) (omega (arith, length-drop k os)) (omega arith) in
    join (block_text (o ∷ take k os)) (written ks (drop k os)) (o ∷ take k os) (drop k os) first rest (omega arith)
    (omega (arith, ap (λ (x : List Observation). length x) e))
    ∙ ap accepted e

-- The observations of any accepted text, written by any cuts within the text limit, read back as themselves.
pub reads_back : (t : List ℕ) (L : List Observation) (cuts : List ℕ) → read t ≡ accepted L → Valid cuts L → length (written cuts L) ≤ text_limit
    → read (written cuts L) ≡ accepted L
reads_back t L cuts h v short = right_reads cuts L v (accepted_right t L h) (accepted_rows t L h) short

-- Cuts that write no more bytes than the text has are within the text limit.
pub reads_back_shorter : (t : List ℕ) (L : List Observation) (cuts : List ℕ) → read t ≡ accepted L → Valid cuts L → length (written cuts L) ≤ length t
    → read (written cuts L) ≡ accepted L
reads_back_shorter t L cuts h v short = reads_back t L cuts h v (omega (arith, (read_accepted t L h).0))
