-- Sums over numbers, rows and runs, one step at a time.
use mathlib.Core.Path.{◌≡◌, refl, ap, ◌∙◌}
use mathlib.Core.List.{List, [], ◌∷◌, ◌++◌}
use Prim.Native.Nat.{ℕ, ◌≤◌, ◌<◌, zero, suc, ◌+◌, ◌-◌}
use native.Mathlib.Omega.{arith}
use lib.ListN.{length, take, drop, get_or, length-drop, set, take-append-drop}
use lib.Bits.{bit_or}
use lib.Seq.{take-suc, take_all}
use native.Mathlib.Nat.{le_of_eq, zero-add}
use Rattle.std.specs.List.{fold, sum, sum_by}
use Rattle.cuts.specs.Block.{Row, row, total, union, value_bytes, row_count, bytes_of, block_bytes}

-- ---- numbers

-- They are the library's sum.
total_from : (a : ℕ) (l : List ℕ) → fold (λ (a x : ℕ). a + x) a l ≡ a + total l
unfolding total
total_from a [] = omega arith
total_from a (x ∷ l) = omega (arith, total_from (a + x) l)

pub total_sum : (l : List ℕ) (n : ℕ) → n ≡ sum l → n ≡ total l
total_sum l n e = omega (arith, total_from 0 l)

-- One number more at the end.
total_snoc : (l : List ℕ) (n : ℕ) → total (l ++ (n ∷ [])) ≡ total l + n
unfolding total
total_snoc [] n = omega arith
total_snoc (x ∷ l) n = omega (arith, total_snoc l n)

-- The first k + 1 numbers together.
pub total_take : (l : List ℕ) (k : ℕ) → k < length l → total (take (suc k) l) ≡ total (take k l) + get_or l k 0
total_take l k h = rw (take-suc l k 0, total_snoc)

-- A part is no more than the whole.
pub total_take_le : (l : List ℕ) (k : ℕ) → total (take k l) ≤ total l
unfolding total
total_take_le l zero = omega arith
total_take_le [] (suc k) = omega arith
total_take_le (x ∷ l) (suc k) = omega (arith, total_take_le l k)

pub total_drop_le : (l : List ℕ) (k : ℕ) → total (drop k l) ≤ total l
unfolding total
total_drop_le l zero = omega arith
total_drop_le [] (suc k) = omega arith
total_drop_le (x ∷ l) (suc k) = omega (arith, total_drop_le l k)

-- The end of a list as the code lends it.
abbrev pub end : {A : Type 0} → List A → ℕ → List A
end l j = take (length l - j) (drop j l)

pub end_is : {A : Type 0} (l : List A) (j : ℕ) → end l j ≡ drop j l
end_is l j = take_all (length l - j) (drop j l) (le_of_eq (length-drop j l))

-- What stands from a stored place on.
pub drop_set : {A : Type 0} (l : List A) (j : ℕ) (a : A) → j < length l → drop j (set l j a) ≡ a ∷ drop (suc j) l
drop_set [] j a h = absurd (omega arith)
drop_set (x ∷ l) zero a h = refl
drop_set (x ∷ l) (suc j) a h = drop_set l j a (omega arith)

-- ---- rows

-- What stands at a place past the end.
abbrev pub no_row : Row
no_row = row 0 0 0

-- How many they are is the library's sum.
count_from : (a : ℕ) (rows : List Row) → fold (λ (n : ℕ) (x : Row). n + x.count) a rows ≡ a + row_count rows
unfolding row_count
count_from a [] = omega arith
count_from a (x ∷ rows) = omega (arith, count_from (a + x.count) rows)

pub count_sum : (rows : List Row) → sum_by (λ (x : Row). x.count) rows ≡ row_count rows
count_sum rows = count_from 0 rows ∙ zero-add (row_count rows)

-- Two lists of rows, one after the other.
pub union_append : (a : ℕ) (l r : List Row) → union a (l ++ r) ≡ union (union a l) r
unfolding union
union_append a [] r = refl
union_append a (x ∷ l) r = union_append (bit_or a x.set) l r

pub values_append : (l r : List Row) → value_bytes (l ++ r) ≡ value_bytes l + value_bytes r
unfolding value_bytes
values_append [] r = omega arith
values_append (x ∷ l) r = omega (arith, values_append l r)

pub count_append : (l r : List Row) → row_count (l ++ r) ≡ row_count l + row_count r
unfolding row_count
count_append [] r = omega arith
count_append (x ∷ l) r = omega (arith, count_append l r)

-- The first k + 1 rows, from the first k.
pub union_take : (rows : List Row) (k : ℕ) → k < length rows → union 0 (take (suc k) rows) ≡ bit_or (union 0 (take k rows)) (get_or rows k no_row).set
unfolding union
union_take rows k h = rw (take-suc rows k no_row, union_append 0 (take k rows))

pub values_take : (rows : List Row) (k : ℕ) → k < length rows → value_bytes (take (suc k) rows) ≡ value_bytes (take k rows) + (get_or rows k no_row).size
unfolding value_bytes
values_take rows k h = rw (take-suc rows k no_row, values_append (take k rows)) (omega arith)

pub count_take : (rows : List Row) (k : ℕ) → k < length rows → row_count (take (suc k) rows) ≡ row_count (take k rows) + (get_or rows k no_row).count
unfolding row_count
count_take rows k h = rw (take-suc rows k no_row, count_append (take k rows)) (omega arith)

-- A part is no more than the whole.
pub values_take_le : (rows : List Row) (k : ℕ) → value_bytes (take k rows) ≤ value_bytes rows
values_take_le rows k = omega (arith, ap value_bytes (take-append-drop k rows), values_append (take k rows) (drop k rows))

pub values_drop_le : (rows : List Row) (k : ℕ) → value_bytes (drop k rows) ≤ value_bytes rows
values_drop_le rows k = omega (arith, ap value_bytes (take-append-drop k rows), values_append (take k rows) (drop k rows))

pub count_take_le : (rows : List Row) (k : ℕ) → row_count (take k rows) ≤ row_count rows
count_take_le rows k = omega (arith, ap row_count (take-append-drop k rows), count_append (take k rows) (drop k rows))

pub count_drop_le : (rows : List Row) (k : ℕ) → row_count (drop k rows) ≤ row_count rows
count_drop_le rows k = omega (arith, ap row_count (take-append-drop k rows), count_append (take k rows) (drop k rows))

-- The block of the first k + 1 rows, from its columns, its bytes of values and its rows.
pub block_take : (rows : List Row) (k u v n : ℕ) → u ≡ union 0 (take (suc k) rows) → v ≡ value_bytes (take (suc k) rows) → n ≡ row_count (take (suc k) rows)
    → block_bytes (take (suc k) rows) ≡ bytes_of u v n
unfolding block_bytes
block_take rows k u v n p q r = rw (← p, ← q, ← r)
