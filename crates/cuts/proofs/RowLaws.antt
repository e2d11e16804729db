-- Rows from the lists that the code has: their marks, parts of them, and what cutting them costs at most.
use mathlib.Core.Path.{◌≡◌, refl, sym, ap}
use mathlib.Core.List.{List, [], ◌∷◌, map}
use Prim.Native.Nat.{ℕ, zero, suc, ◌^◌, ◌≤◌, ◌<◌}
use native.Mathlib.Omega.{arith}
use lib.Bits.{bit_or, or_lt}
use lib.ListN.{length, take, drop, get_or}
use lib.Seq.{take-length}
use Rattle.cuts.specs.Cuts.{cost, Wanted}
use Rattle.cuts.specs.Block.{most_rows, most_bytes, Row, row, rows_of, total, union, value_bytes, row_count, bytes_of, block_bytes, all_more}
use Rattle.cuts.specs.Plan.{marked_rows}
use Rattle.cuts.specs.Look.{block_limit, head_of}
use Rattle.cuts.proofs.CutLaws.{Positive, sum_cuts}
use Rattle.cuts.proofs.BlockLaws.{block_low}
use Rattle.cuts.proofs.PressLaws.{count_rows}

-- ---- rows with marks

-- The rows and the marks of rows with marks.
pub rows_of_lem : (marks sets sizes : List ℕ) → length marks ≡ length sets → map (λ marked. marked.row) (marked_rows marks sets sizes) ≡ rows_of sets sizes
rows_of_lem [] [] sizes e = refl
rows_of_lem [] (s ∷ sets) sizes e = absurd (omega arith)
rows_of_lem (m ∷ marks) [] sizes e = refl
rows_of_lem (m ∷ marks) (s ∷ sets) [] e = refl
rows_of_lem (m ∷ marks) (s ∷ sets) (z ∷ sizes) e = ap (λ (l : List Row). row s z 1 ∷ l) (rows_of_lem marks sets sizes (omega arith))

pub marks_of_lem : (marks sets sizes : List ℕ) → length marks ≡ length sets → length sizes ≡ length sets → map (λ marked. marked.mark) (marked_rows marks sets sizes) ≡ marks
marks_of_lem [] sets sizes e d = refl
marks_of_lem (m ∷ marks) [] sizes e d = absurd (omega arith)
marks_of_lem (m ∷ marks) (s ∷ sets) [] e d = absurd (omega arith)
marks_of_lem (m ∷ marks) (s ∷ sets) (z ∷ sizes) e d = ap (λ (l : List ℕ). m ∷ l) (marks_of_lem marks sets sizes (omega arith) (omega arith))

-- The first rows, and the rest.
pub rows_take : (n : ℕ) (sets sizes : List ℕ) → take n (rows_of sets sizes) ≡ rows_of (take n sets) (take n sizes)
rows_take zero sets sizes = refl
rows_take (suc n) [] sizes = refl
rows_take (suc n) (s ∷ sets) [] = refl
rows_take (suc n) (s ∷ sets) (z ∷ sizes) = ap (λ (l : List Row). row s z 1 ∷ l) (rows_take n sets sizes)

rows_none : (sets : List ℕ) → rows_of sets [] ≡ []
rows_none [] = refl
rows_none (s ∷ sets) = refl

pub rows_drop : (n : ℕ) (sets sizes : List ℕ) → drop n (rows_of sets sizes) ≡ rows_of (drop n sets) (drop n sizes)
rows_drop zero sets sizes = refl
rows_drop (suc n) [] sizes = refl
rows_drop (suc n) (s ∷ sets) [] = sym (rows_none (drop n sets))
rows_drop (suc n) (s ∷ sets) (z ∷ sizes) = rows_drop n sets sizes

pub rows_long : (sets sizes : List ℕ) → length sizes ≡ length sets → length (rows_of sets sizes) ≡ length sets
rows_long [] sizes e = refl
rows_long (s ∷ sets) [] e = absurd (omega arith)
rows_long (s ∷ sets) (z ∷ sizes) e = ap suc (rows_long sets sizes (omega arith))

-- ---- what a cutting costs at most

-- The columns of sets that a number of the machine holds are such a set.
union_low : (columns : ℕ) (sets sizes : List ℕ) → columns < 2 ^ 64 → ((k : ℕ) → get_or sets k 0 < 2 ^ 64) → union columns (rows_of sets sizes) < 2 ^ 64
unfolding union
union_low columns [] sizes h low = h
union_low columns (s ∷ sets) [] h low = h
union_low columns (s ∷ sets) (z ∷ sizes) h low = union_low (bit_or columns s) sets sizes (or_lt 64 columns s h (low 0)) (λ k. low (suc k))

pub low_take : (n : ℕ) (l : List ℕ) → ((k : ℕ) → get_or l k 0 < 2 ^ 64) → (k : ℕ) → get_or (take n l) k 0 < 2 ^ 64
low_take zero l low k = omega arith
low_take (suc n) [] low k = omega arith
low_take (suc n) (x ∷ l) low zero = low 0
low_take (suc n) (x ∷ l) low (suc k) = low_take n l (λ i. low (suc i)) k

-- The wanted cutting costs no more than one block.
pub cheap : (rows : List Row) (ks : List ℕ) → 0 < length rows → Wanted block_bytes all_more rows ks → cost block_bytes ks rows ≤ block_bytes rows
unfolding total
cheap rows ks h w =
    omega (arith, w.least (length rows ∷ []) (sum_cuts (length rows ∷ []) rows (h, tt) (omega arith)), ap block_bytes (take-length rows))

-- The block of all rows is within the limit.
pub block_limited : (sets sizes : List ℕ) → ((k : ℕ) → get_or sets k 0 < 2 ^ 64) → value_bytes (rows_of sets sizes) ≤ most_bytes → length sets ≤ most_rows
    → block_bytes (rows_of sets sizes) < block_limit
unfolding block_bytes bytes_of
block_limited sets sizes low v h =
    block_low (head_of (union 0 (rows_of sets sizes))) (value_bytes (rows_of sets sizes)) (row_count (rows_of sets sizes)) refl (union_low 0 sets sizes (omega arith) low) v (omega (arith, count_rows sets sizes))

-- A cut list has no more numbers than their sum.
pub numbers_few : (ks : List ℕ) → Positive ks → length ks ≤ total ks
unfolding total
numbers_few [] p = omega arith
numbers_few (k ∷ ks) p = omega (arith, p.0, numbers_few ks p.1)
