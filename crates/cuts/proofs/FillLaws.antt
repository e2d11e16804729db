-- Steps of filling in the best costs and the first blocks: one run in front of those that are done. They hold for any limit `more`
-- of a block; the base's is `all_more`.
use mathlib.Core.Path.{◌≡◌, sym, ap, ap₂, ◌∙◌, subst, subst₂}
use mathlib.Core.List.{List, [], ◌∷◌}
use Prim.Native.Nat.{ℕ, ◌≤◌, ◌<◌, zero, suc, ◌+◌, ◌*◌, ◌-◌}
use native.Mathlib.Omega.{arith}
use lib.ListN.{length, drop, get_or, length-drop, drop_of_length-le, set, length-set}
use native.Mathlib.Numerals.{add-one}
use lib.Seq.{drop-cons, drop-drop}
use native.Mathlib.Nat.{le_trans}
use Rattle.std.specs.Prelude.{Option, None}
use Rattle.cuts.specs.Cheapest.{last_least, best_costs, first_more, first_blocks}
use Rattle.cuts.specs.Block.{Row, block_bytes, all_more}
use Rattle.cuts.specs.Look.{block_limit, end_cost, Small, TailIs, TailOf, TailBehind, BestEnd, FoundIs, Fit, Filled}
use Rattle.cuts.specs.declared.tail.Tail.{Tail}
use Rattle.cuts.specs.declared.tail.Found.{Found}
use Rattle.cuts.proofs.SumLaws.{end, end_is, drop_set, no_row, values_drop_le, count_drop_le}
use Rattle.cuts.proofs.LeastLaws.{least_is}

-- One cost more keeps the bound of all.
low_cons : (t : List ℕ) (c m : ℕ) → c ≤ m → ((k : ℕ) → get_or t k 0 ≤ m) → (k : ℕ) → get_or (c ∷ t) k 0 ≤ m
low_cons t c m h g zero = h
low_cons t c m h g (suc k) = g k

module _ (more : Row → List Row → ℕ) (runs : List Row) (costs firsts : List ℕ) (fit : Fit runs costs firsts) (j : ℕ) (h : j < length runs)
    (f : Filled more runs (j + 1) costs firsts) where
  -- The runs from j on can be looked at.
  pub end_small : Small (end runs j) (end costs (j + 1))
  end_small =
      rw (end_is runs j, end_is costs (j + 1)) (record {
        some = omega (arith, length-drop j runs);
        few = omega (arith, length-drop j runs, fit.few);
        rest = omega (arith, length-drop (j + 1) costs, length-drop j runs, fit.costs_length);
        sum = le_trans (values_drop_le runs j) fit.sum;
        all = le_trans (count_drop_le runs j) fit.all;
        low = λ k. omega (arith, f.low k, fit.few);
      })

  -- The run j, and the runs after it.
  x : Row
  x = get_or runs j no_row

  xs : List Row
  xs = drop (suc j) runs

  ahead : drop j runs ≡ x ∷ xs
  unfolding x xs
  ahead = drop-cons runs j no_row h

  -- The runs from j on, and the costs after it, as they are looked at.
  runs_lent : end runs j ≡ x ∷ xs
  runs_lent = end_is runs j ∙ ahead

  costs_lent : end costs (j + 1) ≡ best_costs block_bytes more xs
  unfolding xs
  costs_lent = end_is costs (j + 1) ∙ f.costs_are ∙ ap (λ (n : ℕ). best_costs block_bytes more (drop n runs)) (add-one j)

  module _ (short : more x xs ≤ length xs) (best cost : ℕ) (s : BestEnd (end runs j) (end costs (j + 1)) (more x xs) best cost) where
    found : BestEnd (x ∷ xs) (best_costs block_bytes more xs) (more x xs) best cost
    found = subst₂ (λ (r : List Row) (t : List ℕ). BestEnd r t (more x xs) best cost) runs_lent costs_lent s

    best_is : best ≡ last_least (end_cost (x ∷ xs) (best_costs block_bytes more xs)) (more x xs)
    best_is = least_is (end_cost (x ∷ xs) (best_costs block_bytes more xs)) (more x xs) best found.least

    -- With the run j the costs and the first blocks are filled in from there on.
    filled_on : (w : ℕ) → w ≡ best + 1 → Filled more runs j (set costs j cost) (set firsts j w)
    unfolding best_costs first_blocks first_more x xs
    filled_on w e =
        let hc : j < length costs = omega (arith, fit.costs_length) in
        let hf : j < length firsts = omega (arith, fit.firsts_length) in
        record {
          costs_length = omega (arith, length-set costs j cost, fit.costs_length);
          firsts_length = omega (arith, length-set firsts j w, fit.firsts_length);
          costs_are =
              drop_set costs j cost hc
              ∙ ap₂ ◌∷◌ (found.is ∙ ap (end_cost (x ∷ xs) (best_costs block_bytes more xs)) best_is) (rw (add-one j) at f.costs_are)
              ∙ sym (ap (best_costs block_bytes more) ahead);
          firsts_are =
              drop_set firsts j w hf
              ∙ ap₂ ◌∷◌ (e ∙ add-one best ∙ ap suc best_is) (rw (add-one j) at f.firsts_are)
              ∙ sym (ap (first_blocks block_bytes more) ahead);
          low =
              rw (drop_set costs j cost) (low_cons (drop (suc j) costs) cost ((length runs - j) * block_limit)
              (omega (arith, s.low, ap (λ (t : List ℕ). get_or t 0 0) (end_is costs (j + 1)), f.low 0))
              (λ k. omega (arith, ap (λ (m : ℕ). get_or (drop m costs) k 0) (add-one j), f.low k)));
        }

-- ---- where all runs may stand together

module _ (runs : List Row) (costs firsts : List ℕ) (fit : Fit runs costs firsts) (j : ℕ) (h : j < length runs)
    (f : Filled all_more runs (j + 1) costs firsts) where
  -- The tail of the runs after j is that of what is lent, without its first run.
  pub tail_lent : (tail : Option Tail) → TailOf (drop (j + 1) runs) (drop (j + 2) costs) tail
      → TailBehind (end runs j) (end costs (j + 1)) tail
  tail_lent tail t =
      let two : j + 1 + 1 ≡ j + 2 = omega arith in
      subst₂ (λ (l : List Row) (c : List ℕ). TailOf l c tail)
      (sym (ap (drop 1) (end_is runs j) ∙ drop-drop 1 j runs))
      (sym (ap (drop 1) (end_is costs (j + 1)) ∙ drop-drop 1 (j + 1) costs ∙ ap (λ (n : ℕ). drop n costs) two))
      t

  module _ (found : Found) (s : FoundIs (end runs j) (end costs (j + 1)) found) where
    rest : List Row
    rest = xs all_more runs costs firsts fit j h f

    lent_length : length (end runs j) - 1 ≡ length rest
    unfolding rest
    lent_length = omega (arith, ap length (runs_lent all_more runs costs firsts fit j h f))

    best_end : BestEnd (end runs j) (end costs (j + 1)) (length rest) found.best found.cost
    best_end = subst (λ (k : ℕ). BestEnd (end runs j) (end costs (j + 1)) k found.best found.cost) lent_length s.end

    within : length rest ≤ length rest
    within = omega arith

    pub fill_step : (w : ℕ) → w ≡ found.best + 1 → Filled all_more runs j (set costs j found.cost) (set firsts j w)
    unfolding rest
    fill_step = filled_on all_more runs costs firsts fit j h f within found.best found.cost best_end

    pub tail_step : TailIs (drop j runs) (drop (j + 1) (set costs j found.cost)) found.tail
    tail_step =
        let kept : drop (j + 1) (set costs j found.cost) ≡ drop (j + 1) costs =
        sym (drop-drop 1 j (set costs j found.cost)) ∙ ap (drop 1) (drop_set costs j found.cost (omega (arith, fit.costs_length)))
        ∙ ap (λ (n : ℕ). drop n costs) (sym (add-one j)) in
        subst₂ (λ (l : List Row) (c : List ℕ). TailIs l c found.tail) (end_is runs j) (end_is costs (j + 1) ∙ sym kept) s.tail

pub ruleset fill_needs = (end_small, tail_lent, fill_step, tail_step)

-- ---- the loop over all runs

-- After the last run nothing is to be cut.
pub fill_end : (more : Row → List Row → ℕ) (runs : List Row) (costs firsts : List ℕ) → Fit runs costs firsts
    → Filled more runs (length runs) (set costs (length runs) 0) firsts
unfolding best_costs first_blocks
fill_end more runs costs firsts fit =
    let none : drop (length runs) runs ≡ [] = drop_of_length-le runs {i = length runs} (omega arith) in
    let e : drop (length runs) (set costs (length runs) 0) ≡ 0 ∷ [] =
    drop_set costs (length runs) 0 (omega (arith, fit.costs_length)) ∙ ap (λ (t : List ℕ). 0 ∷ t) (drop_of_length-le costs {i = suc (length runs)} (omega (arith, fit.costs_length))) in
    record {
      costs_length = omega (arith, length-set costs (length runs) 0, fit.costs_length);
      firsts_length = omega (arith, fit.firsts_length);
      costs_are = e ∙ sym (ap (best_costs block_bytes more) none);
      firsts_are = drop_of_length-le firsts {i = length runs} (omega (arith, fit.firsts_length)) ∙ sym (ap (first_blocks block_bytes more) none);
      low = rw e (low_cons [] 0 _ (omega arith) (λ k. omega arith));
    }

-- Nor has it a tail.
pub tail_end : (runs : List Row) (after : List ℕ) → TailOf (drop (length runs) runs) after None
tail_end runs after = record { case = omega (arith, length-drop (length runs) runs) }

pub ruleset fill_all_needs = (fill_end, tail_end)
