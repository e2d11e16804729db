-- Rows with one set can change blocks: what a block of rows costs meets what LikeRows asks of a cost.
use mathlib.Core.Path.{◌≡◌, refl, ap, ◌∙◌}
use mathlib.Core.List.{List, [], ◌∷◌, ◌++◌}
use mathlib.Core.Logic.{◌⊎◌, inl, inr}
use Prim.Native.Nat.{ℕ, ◌≤◌, ◌<◌, zero, suc, ◌+◌}
use native.Mathlib.Omega.{arith}
use lib.ListN.{length, length-append}
use native.Mathlib.Decide.{dec_le}
use lib.Bits.{bit_or}
use lib.Count.{ones}
use native.Mathlib.Nat.{mul-le-mul, le_refl}
use Rattle.element.specs.Set.{name_lengths}
use Rattle.cuts.specs.Block.{Row, union, value_bytes, row_count, bytes_of, block_bytes, all_more}
use Rattle.cuts.proofs.UnionLaws.{or_swap, or_twice, ones_grow, lengths_grow}
use Rattle.cuts.proofs.LikeRows.{Together, cost_or_zero, Trade}
use Rattle.cuts.proofs.SumLaws.{union_append, values_append, count_append}

-- Two rows are alike: the same elements are present, and the first is some rows of the report.
abbrev pub SameSet : Row → Row → Type 0
SameSet x y = (x.set ≡ y.set) × (0 < x.count)

-- A set can be put in first or last.
pub union_or : (a m : ℕ) (b : List Row) → union (bit_or a m) b ≡ bit_or (union a b) m
unfolding union
union_or a m [] = refl
union_or a m (x ∷ b) = ap (λ (n : ℕ). union n b) (or_swap a m x.set) ∙ union_or (bit_or a x.set) m b

-- More columns never make a block cheaper.
bytes_grow : (a m v k : ℕ) → bytes_of a v k ≤ bytes_of (bit_or a m) v k
unfolding bytes_of
bytes_grow a m v k = omega (arith, lengths_grow name_lengths a m, ones_grow a m, mul-le-mul (le_refl k) (ones_grow a m))

some_grow : (b : List Row) (m : ℕ) → cost_or_zero block_bytes b ≤ bytes_of (bit_or (union 0 b) m) (value_bytes b) (row_count b)
unfolding block_bytes
some_grow [] m = omega arith
some_grow (x ∷ b) m = bytes_grow (union 0 (x ∷ b)) m (value_bytes (x ∷ b)) (row_count (x ∷ b))

-- A cut between x and y: u and v are the columns of the block before it and of the block after it.
module _ (l : List Row) (x y : Row) (r : List Row) (like : SameSet x y) where
  u : ℕ
  u = bit_or (union 0 l) x.set

  v : ℕ
  v = bit_or (union 0 r) y.set

  -- The two blocks as they are, and with x and y in one of them.
  left_block : block_bytes (l ++ (x ∷ [])) ≡ bytes_of u (value_bytes l + (x.size + 0)) (row_count l + (x.count + 0))
  unfolding block_bytes u union value_bytes row_count
  left_block = rw (union_append 0 l (x ∷ []), values_append l (x ∷ []), count_append l (x ∷ []))

  right_block : block_bytes (y ∷ r) ≡ bytes_of v (y.size + value_bytes r) (y.count + row_count r)
  unfolding block_bytes v union value_bytes row_count
  right_block = ap (λ (n : ℕ). bytes_of n (y.size + value_bytes r) (y.count + row_count r)) (union_or 0 y.set r)

  left_both : block_bytes (l ++ (x ∷ y ∷ [])) ≡ bytes_of u (value_bytes l + (x.size + (y.size + 0))) (row_count l + (x.count + (y.count + 0)))
  unfolding block_bytes u union value_bytes row_count
  left_both =
      rw (union_append 0 l (x ∷ y ∷ []), values_append l (x ∷ y ∷ []), count_append l (x ∷ y ∷ []), ← like.0, or_twice (union 0 l) x.set)

  right_both : block_bytes (x ∷ y ∷ r) ≡ bytes_of v (x.size + (y.size + value_bytes r)) (x.count + (y.count + row_count r))
  unfolding block_bytes v union value_bytes row_count
  right_both =
      ap (λ (n : ℕ). bytes_of n (x.size + (y.size + value_bytes r)) (x.count + (y.count + row_count r)))
      (ap (λ (n : ℕ). union (bit_or n y.set) r) (ap (bit_or 0) like.0) ∙ ap (λ (n : ℕ). union n r) (or_twice 0 y.set) ∙ union_or 0 y.set r)

  -- Where the block before has no more columns than the one after, y is no dearer there; else x is cheaper after the cut.
  pub saves : (block_bytes (l ++ (x ∷ y ∷ [])) + cost_or_zero block_bytes r ≤ block_bytes (l ++ (x ∷ [])) + block_bytes (y ∷ r))
      ⊎ (cost_or_zero block_bytes l + block_bytes (x ∷ y ∷ r) < block_bytes (l ++ (x ∷ [])) + block_bytes (y ∷ r))
  unfolding u v bytes_of
  saves = go (dec_le (ones u) (ones v))
    where
      go : Dec (ones u ≤ ones v) → (block_bytes (l ++ (x ∷ y ∷ [])) + cost_or_zero block_bytes r ≤ block_bytes (l ++ (x ∷ [])) + block_bytes (y ∷ r))
          ⊎ (cost_or_zero block_bytes l + block_bytes (x ∷ y ∷ r) < block_bytes (l ++ (x ∷ [])) + block_bytes (y ∷ r))
      go (yes p) = inl (omega (arith, left_block, right_block, left_both, some_grow r y.set, mul-le-mul (le_refl y.count) p))
      go (no p) =
          let h : suc (ones v) ≤ ones u = omega arith in
          inr (omega (arith, left_block, right_block, right_both, some_grow l x.set, like.1, mul-le-mul (le_refl x.count) h))

-- Where all rows may stand together, any that are there may.
pub together_all : (k : ℕ) (rows : List Row) → k ≤ length rows → Together all_more k rows
together_all zero rows h = tt
together_all (suc k) [] h = absurd (omega arith)
together_all (suc k) (x ∷ xs) h = omega arith

-- Rows that are alike can change blocks.
pub row_trade : Trade block_bytes all_more SameSet
row_trade = record {
  save = saves;
  last_in = λ l x y t like p. together_all (suc (suc (length l))) (l ++ (x ∷ y ∷ t)) (omega (arith, length-append l (x ∷ y ∷ t)));
  first_in = λ x y t k like h. omega arith;
  first_out = λ y t k h. together_all k t h;
  short = λ x xs. omega arith;
}
