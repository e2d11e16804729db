-- Steps of going along the first blocks and writing the cut list.
use mathlib.Core.Path.{◌≡◌, refl, sym, ap, ◌∙◌}
use mathlib.Core.List.{List, [], ◌∷◌, ◌++◌, append_assoc, append-nil}
use Prim.Native.Nat.{ℕ, ◌≤◌, ◌<◌, zero, suc, ◌+◌, pred, ◌-◌, min}
use native.Mathlib.Omega.{arith}
use lib.ListN.{length, take, drop, get_or, drop_of_length-le, length-drop, set, length-set}
use native.Mathlib.Numerals.{add-one}
use lib.Seq.{drop-cons, drop-drop, take-nil, drop-set-lt, take-suc-set}
use native.Mathlib.Nat.{zero-min, suc-min-suc}
use Rattle.std.specs.List.{sum_by}
use Rattle.cuts.specs.Walk.{block_rows, Walkable, Written}
use Rattle.cuts.specs.Block.{most_rows, Row, row_count}
use Rattle.cuts.specs.declared.cut_list.Walk.{Walk}
use Rattle.cuts.proofs.SumLaws.{no_row, count_sum, count_take_le, count_drop_le}

-- ---- the rows of the first runs

-- No more are taken than there are.
take_min : {A : Type 0} (f : ℕ) (l : List A) → take (min f (length l)) l ≡ take f l
take_min zero l = ap (λ (n : ℕ). take n l) (zero-min (length l))
take_min (suc f) [] = take-nil (min (suc f) 0)
take_min {A} (suc f) (x ∷ l) = rw suc-min-suc (ap (λ (t : List A). x ∷ t) (take_min f l))

-- The runs from i on, up to f of them, where no more are lent than there are.
part_is : (runs : List Row) (i f m : ℕ) → m ≡ min (length runs) (i + f) → take (m - i) (drop i runs) ≡ take f (drop i runs)
part_is runs i f m e =
    let n : m - i ≡ min f (length (drop i runs)) = omega (arith, length-drop i runs) in
    ap (λ (k : ℕ). take k (drop i runs)) n ∙ take_min f (drop i runs)

-- Their rows.
part_count : (runs : List Row) (i f m : ℕ) → m ≡ min (length runs) (i + f) → sum_by (λ (x : Row). x.count) (take (m - i) (drop i runs)) ≡ row_count (take f (drop i runs))
part_count runs i f m e = count_sum (take (m - i) (drop i runs)) ∙ ap row_count (part_is runs i f m e)

pub part_few : (runs : List Row) (i f m : ℕ) → m ≡ min (length runs) (i + f) → row_count runs ≤ most_rows → sum_by (λ (x : Row). x.count) (take (m - i) (drop i runs)) ≤ most_rows
part_few runs i f m e h = omega (arith, part_count runs i f m e, count_take_le (drop i runs) f, count_drop_le runs i)

-- ---- the walk

-- Where a block begins, its rows are the next number.
rows_begin : (runs : List Row) (firsts : List ℕ) (i : ℕ) → length runs ≡ length firsts → i < length firsts
    → block_rows 0 (drop i firsts) (drop i runs) ≡ row_count (take (get_or firsts i 0) (drop i runs)) ∷ block_rows (pred (get_or firsts i 0)) (drop (suc i) firsts) (drop (suc i) runs)
unfolding block_rows
rows_begin runs firsts i e h =
    let g : i < length runs = omega arith in
    rw (drop-cons firsts i 0, drop-cons runs i no_row)

-- Inside a block nothing is written.
rows_inside : (runs : List Row) (firsts : List ℕ) (i s : ℕ) → length runs ≡ length firsts → i < length firsts → (s ≡ 0 → ⊥)
    → block_rows s (drop i firsts) (drop i runs) ≡ block_rows (s - 1) (drop (suc i) firsts) (drop (suc i) runs)
unfolding block_rows
rows_inside runs firsts i zero e h n = absurd (n refl)
rows_inside runs firsts i (suc s) e h n =
    let g : i < length runs = omega arith in
    rw (drop-cons firsts i 0, drop-cons runs i no_row) (ap (λ (m : ℕ). block_rows m (drop (suc i) firsts) (drop (suc i) runs)) (omega arith))

-- What stays from n on stays from n + 1 on.
more_kept : (a b : List ℕ) (n : ℕ) → drop n a ≡ drop n b → drop (n + 1) a ≡ drop (n + 1) b
more_kept a b n e = sym (drop-drop 1 n a) ∙ ap (drop 1) e ∙ drop-drop 1 n b

module _ (runs : List Row) (firsts out₀ out : List ℕ) (i n k : ℕ) (v : Written runs firsts out₀ i (record { written = n; skip = k }) out) (h : i < length firsts) (l : Walkable runs firsts out) where
  -- The step where a block begins at the run i.
  pub walk_begin : k ≡ 0 → (s r : ℕ) → s ≡ pred (get_or firsts i 0) → r ≡ row_count (take (get_or firsts i 0) (drop i runs))
      → Written runs firsts out₀ (i + 1) (record { written = n + 1; skip = s }) (set out n r)
  walk_begin z s r e q =
      let b : n < length out = omega (arith, v.few, l.room) in
      record {
        same = length-set out n r ∙ v.same;
        few = omega (arith, v.few);
        kept = drop-set-lt (n + 1) out n r (omega arith) ∙ more_kept out out₀ n v.kept;
        wrote =
            rw (add-one n, add-one i, take-suc-set out n r, append_assoc, e, q)
            (ap (λ (t : List ℕ). take n out ++ t) (sym (rows_begin runs firsts i l.same h)) ∙ (rw z at v.wrote));
      }

  -- The step where the run i stands in the last block.
  pub walk_inside : (k ≡ 0 → ⊥) → Written runs firsts out₀ (i + 1) (record { written = n; skip = k - 1 }) out
  walk_inside z = record {
    same = v.same;
    few = omega (arith, v.few);
    kept = v.kept;
    wrote = rw (add-one i) (ap (λ (t : List ℕ). take n out ++ t) (sym (rows_inside runs firsts i k l.same h z)) ∙ v.wrote);
  }

-- All runs are passed: the whole cut list is written.
pub walk_end : (runs : List Row) (firsts out₀ out : List ℕ) (i : ℕ) (w : Walk) → length firsts ≤ i → Written runs firsts out₀ i w out → take w.written out ≡ block_rows 0 firsts runs
unfolding block_rows
walk_end runs firsts out₀ out i w h v = sym (append-nil (take w.written out)) ∙ (rw (drop_of_length-le firsts) at v.wrote)

-- As the code has it: f runs were read, and they have r rows.
pub walk_takes : (runs : List Row) (firsts out₀ out : List ℕ) (i : ℕ) (v : Walk) (f m r s : ℕ) → Walkable runs firsts out → i < length firsts → v.skip ≡ 0 → f ≡ get_or firsts i 0
    → m ≡ min (length runs) (i + f) → r ≡ sum_by (λ (x : Row). x.count) (take (m - i) (drop i runs)) → s ≡ f - 1
    → Written runs firsts out₀ i v out → Written runs firsts out₀ (i + 1) (record { written = v.written + 1; skip = s }) (set out v.written r)
walk_takes runs firsts out₀ out i v f m r s l h z e p q d w =
    walk_begin runs firsts out₀ out i v.written v.skip w h l z s r (omega (arith, ap pred e))
    (q ∙ part_count runs i f m p ∙ ap (λ (n : ℕ). row_count (take n (drop i runs))) e)

pub walk_passes : (runs : List Row) (firsts out₀ out : List ℕ) (i : ℕ) (v : Walk) → Walkable runs firsts out → i < length firsts → (v.skip ≡ 0 → ⊥)
    → Written runs firsts out₀ i v out → Written runs firsts out₀ (i + 1) (record { written = v.written; skip = v.skip - 1 }) out
walk_passes runs firsts out₀ out i v l h z r = walk_inside runs firsts out₀ out i v.written v.skip r h l z

pub ruleset walk_needs = (part_few, walk_takes, walk_passes)
