-- A reviewer can skip this file: the cheapest cutting by recursion from the end, as private functions fill it in.
use Rattle.std.specs.Prelude.{Bool, true, false, ℕ, zero, suc, ◌+◌, pred, leb, take}
use mathlib.Core.List.{List, [], ◌∷◌}
use Rattle.std.proofs.Math.ListN.{get_or}

-- The first number where the test holds, else the second.
abbrev pub pick : Bool → ℕ → ℕ → ℕ
pick true a b = a
pick false a b = b

-- The place of the least of f 0 .. f m, the last such place.
unfoldable pub last_least : (ℕ → ℕ) → ℕ → ℕ
last_least f zero = zero
last_least f (suc m) = pick (leb (f (suc m)) (f (last_least f m))) (suc m) (last_least f m)

-- The cut list that the first blocks give: after a block of f rows, the f - 1 numbers that follow are passed over.
unfoldable pub follow : ℕ → List ℕ → List ℕ
follow skip [] = []
follow zero (f ∷ firsts) = f ∷ follow (pred f) firsts
follow (suc skip) (f ∷ firsts) = follow skip firsts

module _ {A : Type 0} (C : List A → ℕ) where
  -- The cost where x and the next k rows are one block, and the best of what is left stands at k in `after`.
  abbrev pub cost_with : A → List A → List ℕ → ℕ → ℕ
  cost_with x xs after k = C (x ∷ take k xs) + get_or after k 0

module _ {A : Type 0} (C : List A → ℕ) (more : A → List A → ℕ) where
  -- The best costs of the rows, of the rows without the first, and so on.
  unfoldable pub best_costs : List A → List ℕ
  best_costs [] = 0 ∷ []
  best_costs (x ∷ xs) = cost_with C x xs (best_costs xs) (last_least (cost_with C x xs (best_costs xs)) (more x xs)) ∷ best_costs xs

  -- The best cost of the rows.
  unfoldable pub best_cost : List A → ℕ
  unfolding best_costs
  best_cost rows = get_or (best_costs rows) 0 0

  -- How many rows the first block of the best cutting has after x.
  unfoldable pub first_more : A → List A → ℕ
  first_more x xs = last_least (cost_with C x xs (best_costs xs)) (more x xs)

  -- How many rows the first block has, of the rows, of the rows without the first, and so on.
  unfoldable pub first_blocks : List A → List ℕ
  first_blocks [] = []
  first_blocks (x ∷ xs) = suc (first_more x xs) ∷ first_blocks xs

  -- The best cut lists of the rows, of the rows without the first, and so on.
  unfoldable pub best_lists : List A → List (List ℕ)
  best_lists [] = [] ∷ []
  best_lists (x ∷ xs) = (suc (first_more x xs) ∷ get_or (best_lists xs) (first_more x xs) []) ∷ best_lists xs

  -- The cut list that is chosen for the rows.
  unfoldable pub chosen : List A → List ℕ
  unfolding best_lists
  chosen rows = get_or (best_lists rows) 0 []
