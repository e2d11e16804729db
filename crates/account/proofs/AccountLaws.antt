-- Steps of working out an account, each over plain lists.
use Prim.Native.Nat.{ℕ, suc, ◌*◌, ◌^◌, ◌≤◌, ◌<◌}
use mathlib.Core.Path.{◌≡◌, refl}
use mathlib.Core.List.{List, [], ◌∷◌}
use mathlib.Core.Logic.{◌⊎◌, inl, inr}
use native.Mathlib.Nat.{mul-le-mul}
use native.Mathlib.Omega.{arith}
use lib.Bits.{bit_or}
use lib.ListN.{length, get_or}
use borrow.Author.Tests.{eq-eqb, ne_eqb, le-leb, lt-leb}
use Rattle.element.specs.Set.{joined}
use Rattle.cuts.specs.Block.{most_rows, rows_of, total, union, value_bytes, row_count}
use Rattle.account.specs.Account.{closed, accounted}

-- The bytes of the cells are few.
pub cells_small : (rows columns : ℕ) → rows ≤ most_rows → columns ≤ 64 → rows * columns ≤ 65536
cells_small rows columns h g = omega (arith, mul-le-mul h g)

-- The elements of rows are those of their sets.
pub union_is : (set : ℕ) (sets sizes : List ℕ) → length sizes ≡ length sets → union set (rows_of sets sizes) ≡ joined set sets
unfolding union joined
union_is set [] sizes e = refl
union_is set (s ∷ sets) [] e = absurd (omega arith)
union_is set (s ∷ sets) (size ∷ sizes) e = union_is (bit_or set s) sets sizes (omega arith)

-- The bytes of their values are those of their sizes.
pub values_are : (sets sizes : List ℕ) → length sizes ≡ length sets → value_bytes (rows_of sets sizes) ≡ total sizes
unfolding value_bytes total
values_are [] [] e = refl
values_are [] (size ∷ sizes) e = absurd (omega arith)
values_are (set ∷ sets) [] e = absurd (omega arith)
values_are (set ∷ sets) (size ∷ sizes) e = omega (arith, values_are sets sizes (omega arith))

-- Sizes of 32 bits come to at most so many times 2 ^ 32.
pub sum_small : (sizes : List ℕ) → ((k : ℕ) → get_or sizes k 0 < 2 ^ 32) → total sizes ≤ length sizes * 2 ^ 32
unfolding total
sum_small [] h = omega arith
sum_small (size ∷ sizes) h = omega (arith, h 0, sum_small sizes (λ k. h (suc k)))

-- Each row counts one.
rows_counted : (sets sizes : List ℕ) → length sizes ≡ length sets → row_count (rows_of sets sizes) ≡ length sets
unfolding row_count
rows_counted [] sizes e = refl
rows_counted (set ∷ sets) [] e = absurd (omega arith)
rows_counted (set ∷ sets) (size ∷ sizes) e = omega (arith, rows_counted sets sizes (omega arith))

-- Where a test fails, the account is that of no rows.
pub none_accounted : (sets sizes : List ℕ) → (most_rows < length sets) ⊎ ((length sets ≤ most_rows) × (length sizes ≡ length sets → ⊥))
    → closed 0 0 0 ≡ accounted sets sizes
unfolding accounted union value_bytes row_count
none_accounted sets sizes (inl h) = rw (lt-leb (length sets) most_rows h)
none_accounted sets sizes (inr h) = rw (le-leb (length sets) most_rows h.0, ne_eqb (length sizes) (length sets) h.1)

-- Else it is that of all.
pub all_accounted : (sets sizes : List ℕ) → length sets ≤ most_rows → length sizes ≡ length sets → closed (joined 0 sets) (total sizes) (length sets) ≡ accounted sets sizes
unfolding accounted
all_accounted sets sizes few same =
    rw (le-leb (length sets) most_rows few, eq-eqb (length sizes) (length sets) same, rows_counted sets sizes same, union_is 0 sets sizes same, values_are sets sizes same)
