-- Rows that are like their neighbours are never parted by the wanted cutting, so it can be looked for over groups of them. This holds
-- for any cost `C` of a block, any limit `more` of a block and any `Like`, under what `Trade` asks.
use mathlib.Core.Path.{◌≡◌, refl, ap, ◌∙◌}
use mathlib.Core.List.{List, [], ◌∷◌, ◌++◌}
use mathlib.Core.Logic.{◌⊎◌, inl, inr}
use Prim.Native.Nat.{ℕ, ◌≤◌, ◌<◌, zero, suc, ◌+◌}
use native.Mathlib.Omega.{arith}
use lib.ListN.{length, take, drop}
use lib.Seq.{take-append_seam, drop-append_seam}
use Rattle.cuts.specs.Cuts.{Yields, cost, Cuts, Wanted}

module _ {A : Type 0} (more : A → List A → ℕ) where
  -- The first k rows may stand in one block.
  abbrev pub Together : ℕ → List A → Type 0
  Together zero rows = Unit
  Together (suc k) [] = ⊥
  Together (suc k) (x ∷ xs) = k ≤ more x xs

  -- A cut list is its first block and a cut list of the rest.
  pub cuts_split : (k : ℕ) (ks : List ℕ) (rows : List A) → Cuts more (suc k ∷ ks) rows → Together (suc k) rows × Cuts more ks (drop (suc k) rows)
  cuts_split k ks [] v = absurd v
  cuts_split k ks (x ∷ xs) v = v

  pub cuts_join : (k : ℕ) (ks : List ℕ) (rows : List A) → Together (suc k) rows → Cuts more ks (drop (suc k) rows) → Cuts more (suc k ∷ ks) rows
  cuts_join k ks [] p v = absurd p
  cuts_join k ks (x ∷ xs) p v = (p, v)

  pub cuts_zero : (ks : List ℕ) (rows : List A) → Cuts more (zero ∷ ks) rows → ⊥
  cuts_zero ks [] v = v
  cuts_zero ks (x ∷ xs) v = v

  -- A block before the others, if it has rows.
  abbrev pub put_block : ℕ → List ℕ → List ℕ
  put_block zero ks = ks
  put_block (suc k) ks = suc k ∷ ks

  pub cuts_put : (k : ℕ) (ks : List ℕ) (rows : List A) → Together k rows → Cuts more ks (drop k rows) → Cuts more (put_block k ks) rows
  cuts_put zero ks rows p v = v
  cuts_put (suc k) ks rows p v = cuts_join k ks rows p v

module _ {A : Type 0} (C : List A → ℕ) where
  -- The cost of a block, or 0 where it has no rows.
  abbrev pub cost_or_zero : List A → ℕ
  cost_or_zero [] = 0
  cost_or_zero (x ∷ xs) = C (x ∷ xs)

  pub cost_put : (more : A → List A → ℕ) (k : ℕ) (ks : List ℕ) (rows : List A) → Together more k rows
      → cost C (put_block more k ks) rows ≡ cost_or_zero (take k rows) + cost C ks (drop k rows)
  cost_put more zero ks rows p = omega arith
  cost_put more (suc k) ks [] p = absurd p
  cost_put more (suc k) ks (x ∷ xs) p = refl

-- What is asked of the cost and the limit of blocks. Where a cut parts two like rows, moving the second to the block before costs no
-- more, or moving the first to the block after costs less; and the limit allows both.
pub record Trade {A : Type 0} (C : List A → ℕ) (more : A → List A → ℕ) (Like : A → A → Type 0) : Type 0 where
  pub save : (l : List A) (x y : A) (r : List A) → Like x y
      → (C (l ++ (x ∷ y ∷ [])) + cost_or_zero C r ≤ C (l ++ (x ∷ [])) + C (y ∷ r)) ⊎ (cost_or_zero C l + C (x ∷ y ∷ r) < C (l ++ (x ∷ [])) + C (y ∷ r))
  pub last_in : (l : List A) (x y : A) (t : List A) → Like x y → Together more (suc (length l)) (l ++ (x ∷ y ∷ t)) → Together more (suc (suc (length l))) (l ++ (x ∷ y ∷ t))
  pub first_in : (x y : A) (t : List A) (k : ℕ) → Like x y → k ≤ more y t → suc k ≤ more x (y ∷ t)
  pub first_out : (y : A) (t : List A) (k : ℕ) → k ≤ more y t → Together more k t
  pub short : (x : A) (xs : List A) → more x xs ≤ length xs

-- The first rows up to x, and up to y.
module _ {A : Type 0} (x y : A) (t : List A) where
  take_one : (l : List A) → take (suc (length l)) (l ++ (x ∷ t)) ≡ l ++ (x ∷ [])
  take_one [] = refl
  take_one (z ∷ l) = ap (λ (r : List A). z ∷ r) (take_one l)

  drop_one : (l : List A) → drop (suc (length l)) (l ++ (x ∷ t)) ≡ t
  drop_one [] = refl
  drop_one (z ∷ l) = drop_one l

  take_two : (l : List A) → take (suc (suc (length l))) (l ++ (x ∷ y ∷ t)) ≡ l ++ (x ∷ y ∷ [])
  take_two [] = refl
  take_two (z ∷ l) = ap (λ (r : List A). z ∷ r) (take_two l)

  drop_two : (l : List A) → drop (suc (suc (length l))) (l ++ (x ∷ y ∷ t)) ≡ t
  drop_two [] = refl
  drop_two (z ∷ l) = drop_two l

module _ {A : Type 0} (C : List A → ℕ) (more : A → List A → ℕ) (Like : A → A → Type 0) (trade : Trade C more Like) where
  fewer : (k : ℕ) (rows : List A) → Together more (suc k) rows → Together more k rows
  fewer zero rows p = tt
  fewer (suc k) [] p = p
  fewer (suc k) (x ∷ xs) p = omega arith

  -- The rest of a wanted cutting is wanted.
  pub wanted_tail : (k : ℕ) (ks : List ℕ) (rows : List A) → Wanted C more rows (suc k ∷ ks) → Wanted C more (drop (suc k) rows) ks
  wanted_tail k ks [] w = absurd w.cuts
  wanted_tail k ks (x ∷ xs) w = record {
    cuts = w.cuts.1;
    least = λ js v. omega (arith, w.least (suc k ∷ js) (w.cuts.0, v));
    last = λ js v e. go js (w.last (suc k ∷ js) (w.cuts.0, v) (ap (λ (n : ℕ). C (x ∷ take k xs) + n) e));
  }
    where
      go : (js : List ℕ) → (suc k < suc k) ⊎ ((suc k ≡ suc k) × Yields js ks) → Yields js ks
      go js (inl h) = absurd (omega arith)
      go js (inr h) = h.1

  module _ (l : List A) (x y : A) (t : List A) (like : Like x y) where
    abbrev rows : List A
    rows = l ++ (x ∷ y ∷ t)

    module _ (b : ℕ) (ks : List ℕ) (w : Wanted C more rows (suc (length l) ∷ suc b ∷ ks)) where
      -- The blocks on both sides of the cut, and what the cutting costs.
      may : Together more (suc (length l)) rows
      may = (cuts_split more (length l) (suc b ∷ ks) rows w.cuts).0

      after : (b ≤ more y t) × Cuts more ks (drop b t)
      after = rw (drop_one x y (y ∷ t) l) at (cuts_split more (length l) (suc b ∷ ks) rows w.cuts).1

      parted : cost C (suc (length l) ∷ suc b ∷ ks) rows ≡ C (l ++ (x ∷ [])) + (C (y ∷ take b t) + cost C ks (drop b t))
      parted = rw (take_one x y (y ∷ t) l, drop_one x y (y ∷ t) l)

      -- y goes to the block before it.
      left : cost C (suc (suc (length l)) ∷ put_block more b ks) rows ≡ C (l ++ (x ∷ y ∷ [])) + (cost_or_zero C (take b t) + cost C ks (drop b t))
      left = rw (take_two x y t l, drop_two x y t l, cost_put C more b ks t (trade.first_out y t b after.0))

      left_cuts : Cuts more (suc (suc (length l)) ∷ put_block more b ks) rows
      left_cuts =
          cuts_join more (suc (length l)) (put_block more b ks) rows (trade.last_in l x y t like may)
          (rw (drop_two x y t l) (cuts_put more b ks t (trade.first_out y t b after.0) after.1))

      -- x goes to the block after it.
      right : cost C (put_block more (length l) (suc (suc b) ∷ ks)) rows ≡ cost_or_zero C l + (C (x ∷ y ∷ take b t) + cost C ks (drop b t))
      right = cost_put C more (length l) (suc (suc b) ∷ ks) rows (fewer (length l) rows may) ∙ rw (take-append_seam l (x ∷ y ∷ t), drop-append_seam l (x ∷ y ∷ t))

      right_cuts : Cuts more (put_block more (length l) (suc (suc b) ∷ ks)) rows
      right_cuts =
          cuts_put more (length l) (suc (suc b) ∷ ks) rows (fewer (length l) rows may)
          (rw (drop-append_seam l (x ∷ y ∷ t)) (trade.first_in x y t b like after.0, after.1))

      later : (n : ℕ) (js : List ℕ) → (suc n < n) ⊎ ((suc n ≡ n) × Yields js (suc b ∷ ks)) → ⊥
      later n js (inl h) = omega arith
      later n js (inr h) = omega (arith, h.0)

      no_two : ⊥
      no_two = go (trade.save l x y (take b t) like)
        where
          go : (C (l ++ (x ∷ y ∷ [])) + cost_or_zero C (take b t) ≤ C (l ++ (x ∷ [])) + C (y ∷ take b t)) ⊎ (cost_or_zero C l + C (x ∷ y ∷ take b t) < C (l ++ (x ∷ [])) + C (y ∷ take b t)) → ⊥
          go (inl h) =
              let e : cost C (suc (suc (length l)) ∷ put_block more b ks) rows ≡ cost C (suc (length l) ∷ suc b ∷ ks) rows =
              omega (arith, w.least (suc (suc (length l)) ∷ put_block more b ks) left_cuts, left, parted) in
              later (suc (length l)) (put_block more b ks) (w.last (suc (suc (length l)) ∷ put_block more b ks) left_cuts e)
          go (inr h) = omega (arith, w.least (put_block more (length l) (suc (suc b) ∷ ks)) right_cuts, right, parted)

    -- A wanted cutting does not part like rows.
    pub no_cut : (ks : List ℕ) → Wanted C more rows (suc (length l) ∷ ks) → ⊥
    no_cut [] w = rw (drop_one x y (y ∷ t) l) at (cuts_split more (length l) [] rows w.cuts).1
    no_cut (zero ∷ ks) w = rw (drop_one x y (y ∷ t) l) at (cuts_split more (length l) (zero ∷ ks) rows w.cuts).1
    no_cut (suc b ∷ ks) w = no_two b ks w
