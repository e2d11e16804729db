-- The cheapest cutting by recursion from the end is the wanted one.
use mathlib.Core.Path.{◌≡◌, refl, sym, ap, ◌∙◌, subst, fun_ext}
use mathlib.Core.Bool.{Bool, true, false}
use mathlib.Core.List.{List, [], ◌∷◌}
use mathlib.Core.Logic.{◌⊎◌, inl, inr, ⊎_elim}
use Prim.Native.Nat.{ℕ, zero, suc, ◌+◌, ◌≤◌, ◌<◌}
use native.Mathlib.Omega.{arith}
use native.Mathlib.Nat.{le-suc_iff, eq-or-lt_of_le}
use lib.Arith.{le-zero}
use native.Mathlib.Decide.{dec_le}
use borrow.Author.Tests.{leb-true, leb-false}
use lib.Dec.{leb}
use lib.ListN.{take, drop, get_or}
use Rattle.cuts.specs.Cuts.{Yields, cost, Cuts, Wanted}
use Rattle.cuts.specs.Cheapest.{pick, last_least, follow, cost_with, best_costs, best_cost, first_more, first_blocks, best_lists, chosen}

-- What holds of the last place of the least: it is in range, nothing is less, and what is as small is not later.
pub record IsLastLeast (f : ℕ → ℕ) (m a : ℕ) : Type 0 where
  pub within : a ≤ m
  pub least : (k : ℕ) → k ≤ m → f a ≤ f k
  pub last : (k : ℕ) → k ≤ m → a < k → f a < f k

-- What holds up to m and at the next number holds up to there.
up_to_suc : (P : ℕ → Type 0) (m : ℕ) → ((k : ℕ) → k ≤ m → P k) → P (suc m) → (k : ℕ) → k ≤ suc m → P k
up_to_suc P m h p k l = ⊎_elim (λ e. h k e) (λ e. subst P (sym e) p) (le-suc_iff.0 l)

-- One more place is taken where it is as small.
least_take : (f : ℕ → ℕ) (m a : ℕ) → IsLastLeast f m a → f (suc m) ≤ f a → IsLastLeast f (suc m) (suc m)
least_take f m a r h = record {
  within = omega arith;
  least = up_to_suc (λ k. f (suc m) ≤ f k) m (λ k l. omega (arith, r.least k l)) (omega arith);
  last = λ k l g. omega arith;
}

-- One more place is left where it is not as small.
least_leave : (f : ℕ → ℕ) (m a : ℕ) → IsLastLeast f m a → f a < f (suc m) → IsLastLeast f (suc m) a
least_leave f m a r h = record {
  within = omega (arith, r.within);
  least = up_to_suc (λ k. f a ≤ f k) m r.least (omega arith);
  last = up_to_suc (λ k. a < k → f a < f k) m r.last (λ g. h);
}

-- The last place of the least is what it is called.
pub least_at : (f : ℕ → ℕ) (m : ℕ) → IsLastLeast f m (last_least f m)
unfolding last_least
least_at f zero = record {
  within = omega arith;
  least = λ k h. omega (arith, ap f (le-zero h));
  last = λ k h l. omega arith;
}
least_at f (suc m) = go (leb (f (suc m)) (f (last_least f m))) refl (least_at f m)
  where
    go : (b : Bool) → leb (f (suc m)) (f (last_least f m)) ≡ b → IsLastLeast f m (last_least f m) → IsLastLeast f (suc m) (pick b (suc m) (last_least f m))
    go true e r = least_take f m (last_least f m) r (leb-true _ _ e)
    go false e r = least_leave f m (last_least f m) r (leb-false _ _ e)

-- Induction over the ends of a list.
pub suffix_all : {A : Type 0} (P : List A → Type 0) → P [] → ((x : A) (xs : List A) → ((k : ℕ) → P (drop k xs)) → P (x ∷ xs))
    → (rows : List A) (k : ℕ) → P (drop k rows)
suffix_all P n c [] zero = n
suffix_all P n c [] (suc k) = n
suffix_all P n c (x ∷ xs) zero = c x xs (suffix_all P n c xs)
suffix_all P n c (x ∷ xs) (suc k) = suffix_all P n c xs k

module _ {A : Type 0} (C : List A → ℕ) (more : A → List A → ℕ) where
  -- The costs that are listed are the best costs of the ends of the rows.
  pub costs_at : (rows : List A) (k : ℕ) → get_or (best_costs C more rows) k 0 ≡ best_cost C more (drop k rows)
  unfolding best_costs best_cost
  costs_at [] zero = refl
  costs_at [] (suc k) = refl
  costs_at (x ∷ xs) zero = refl
  costs_at (x ∷ xs) (suc k) = costs_at xs k

  -- The lists that are listed are what is chosen for the ends of the rows.
  lists_at : (rows : List A) (k : ℕ) → get_or (best_lists C more rows) k [] ≡ chosen C more (drop k rows)
  unfolding best_lists chosen
  lists_at [] zero = refl
  lists_at [] (suc k) = refl
  lists_at (x ∷ xs) zero = refl
  lists_at (x ∷ xs) (suc k) = lists_at xs k

  -- The cost where x and the next k rows are one block, and the rest is cut best.
  abbrev pub cost_over : A → List A → ℕ → ℕ
  cost_over x xs k = C (x ∷ take k xs) + best_cost C more (drop k xs)

  -- That cost is what the search works out.
  with_over : (x : A) (xs : List A) → cost_with C x xs (best_costs C more xs) ≡ cost_over x xs
  with_over x xs = fun_ext (λ k. ap (λ (n : ℕ). C (x ∷ take k xs) + n) (costs_at xs k))

  -- The first block is the last of the best.
  pub first_is : (x : A) (xs : List A) → first_more C more x xs ≡ last_least (cost_over x xs) (more x xs)
  unfolding first_more
  first_is x xs = ap (λ (f : ℕ → ℕ). last_least f (more x xs)) (with_over x xs)

  pub first_at : (x : A) (xs : List A) → IsLastLeast (cost_over x xs) (more x xs) (first_more C more x xs)
  first_at x xs = rw first_is (least_at (cost_over x xs) (more x xs))

  -- What is best and chosen, step by step.
  pub best_nil : best_cost C more [] ≡ 0
  unfolding best_cost best_costs
  best_nil = refl

  pub best_cons : (x : A) (xs : List A) → best_cost C more (x ∷ xs) ≡ cost_over x xs (first_more C more x xs)
  unfolding best_cost first_more best_costs
  best_cons x xs = ap (λ (f : ℕ → ℕ). f (first_more C more x xs)) (with_over x xs)

  pub chosen_nil : chosen C more [] ≡ []
  unfolding chosen best_lists
  chosen_nil = refl

  pub chosen_cons : (x : A) (xs : List A) → chosen C more (x ∷ xs) ≡ suc (first_more C more x xs) ∷ chosen C more (drop (first_more C more x xs) xs)
  unfolding chosen best_lists
  chosen_cons x xs = ap (λ (l : List ℕ). suc (first_more C more x xs) ∷ l) (lists_at xs (first_more C more x xs))

  -- The first blocks that are listed give what is chosen.
  pub follow_at : (rows : List A) (skip : ℕ) → follow skip (first_blocks C more rows) ≡ chosen C more (drop skip rows)
  unfolding follow first_blocks
  follow_at [] zero = sym chosen_nil
  follow_at [] (suc skip) = sym chosen_nil
  follow_at (x ∷ xs) zero = ap (λ (l : List ℕ). suc (first_more C more x xs) ∷ l) (follow_at xs (first_more C more x xs)) ∙ sym (chosen_cons x xs)
  follow_at (x ∷ xs) (suc skip) = follow_at xs skip

  -- No cut list costs less.
  pub best_least : (ks : List ℕ) (rows : List A) → Cuts more ks rows → best_cost C more rows ≤ cost C ks rows
  best_least [] [] v = omega (arith, best_nil)
  best_least [] (x ∷ xs) v = absurd v
  best_least (k ∷ ks) [] v = absurd v
  best_least (zero ∷ ks) (x ∷ xs) v = absurd v
  best_least (suc k ∷ ks) (x ∷ xs) v = omega (arith, best_cons x xs, (first_at x xs).least k v.0, best_least ks (drop k xs) v.1)

  -- A cheapest cut list begins with no more rows than the chosen one, and goes on with a cheapest one.
  starts : (k : ℕ) (ks : List ℕ) (x : A) (xs : List A) → k ≤ more x xs → Cuts more ks (drop k xs)
      → C (x ∷ take k xs) + cost C ks (drop k xs) ≡ best_cost C more (x ∷ xs) → (k ≤ first_more C more x xs) × (cost C ks (drop k xs) ≡ best_cost C more (drop k xs))
  starts k ks x xs h v e =
      let r = first_at x xs in
      let b = best_cons x xs in
      let l = best_least ks (drop k xs) v in
      (go (dec_le k (first_more C more x xs)) b l, omega (arith, r.least k h))
    where
      go : Dec (k ≤ first_more C more x xs) → best_cost C more (x ∷ xs) ≡ cost_over x xs (first_more C more x xs) → best_cost C more (drop k xs) ≤ cost C ks (drop k xs) → k ≤ first_more C more x xs
      go (yes p) b l = p
      go (no n) b l = absurd (omega (arith, (first_at x xs).last k h (omega arith)))

  -- Of those that cost as little, the chosen one is the last.
  pub chosen_last : (ks : List ℕ) (rows : List A) → Cuts more ks rows → cost C ks rows ≡ best_cost C more rows → Yields ks (chosen C more rows)
  chosen_last [] [] v e = tt
  chosen_last [] (x ∷ xs) v e = absurd v
  chosen_last (k ∷ ks) [] v e = absurd v
  chosen_last (zero ∷ ks) (x ∷ xs) v e = absurd v
  chosen_last (suc k ∷ ks) (x ∷ xs) v e =
      let s = starts k ks x xs v.0 v.1 e in
      rw chosen_cons (go (eq-or-lt_of_le s.0) (chosen_last ks (drop k xs) v.1 s.1))
    where
      go : (k ≡ first_more C more x xs) ⊎ (k < first_more C more x xs) → Yields ks (chosen C more (drop k xs))
          → (suc k < suc (first_more C more x xs)) ⊎ ((suc k ≡ suc (first_more C more x xs)) × Yields ks (chosen C more (drop (first_more C more x xs) xs)))
      go (inl p) l = inr (ap suc p, subst (λ (n : ℕ). Yields ks (chosen C more (drop n xs))) p l)
      go (inr p) l = inl (omega arith)

  -- The chosen one cuts the rows, and costs the best.
  abbrev Right : List A → Type 0
  Right rows = Cuts more (chosen C more rows) rows × (cost C (chosen C more rows) rows ≡ best_cost C more rows)

  right_all : (rows : List A) (k : ℕ) → Right (drop k rows)
  right_all = suffix_all Right (rw chosen_nil (tt, sym best_nil)) step
    where
      step : (x : A) (xs : List A) → ((k : ℕ) → Right (drop k xs)) → Right (x ∷ xs)
      step x xs h =
          let r = h (first_more C more x xs) in
          rw chosen_cons (((first_at x xs).within, r.0), ap (λ (n : ℕ). C (x ∷ take (first_more C more x xs) xs) + n) r.1 ∙ sym (best_cons x xs))

  pub chosen_right : (rows : List A) → Right rows
  chosen_right rows = right_all rows 0

  -- The chosen one is the wanted one.
  pub chosen_wanted : (rows : List A) → Wanted C more rows (chosen C more rows)
  chosen_wanted rows =
      let r = chosen_right rows in
      record {
        cuts = r.0;
        least = λ js v. omega (arith, r.1, best_least js rows v);
        last = λ js v e. chosen_last js rows v (e ∙ r.1);
      }
