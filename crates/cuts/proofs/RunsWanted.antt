-- The chosen cutting of the runs, in rows, is the wanted cutting of the rows.
use mathlib.Core.Path.{◌≡◌, refl, sym, ap, ap₂, ◌∙◌, subst₂}
use mathlib.Core.List.{List, [], ◌∷◌, ◌++◌, map}
use Prim.Native.Nat.{ℕ, ◌+◌, ◌≤◌, ◌<◌, zero, suc}
use native.Mathlib.Omega.{arith}
use lib.ListN.{length, take, length-append, length-map, length-drop}
use Rattle.cuts.specs.Runs.{press, in_rows, Ready, ReadyRuns, PlannedRuns, Pressed}
use Rattle.cuts.specs.Cheapest.{best_cost, chosen}
use Rattle.cuts.specs.Cuts.{cost, Wanted}
use Rattle.cuts.specs.Plan.{Planned}
use Rattle.cuts.specs.Block.{Row, rows_of, value_bytes, row_count, block_bytes, all_more}
use Rattle.cuts.specs.declared.Plan.{Plan}
use Rattle.cuts.proofs.Trades.{SameSet, together_all, row_trade}
use Rattle.cuts.proofs.GroupCuts.{flat, group_rows, cost_rows, Chains, SameLimit, wanted_rows}
use Rattle.cuts.proofs.RunGroups.{group, AllOne, rows_one, flat_group, chains_group, summary, block_flat, press_is, in_rows_groups}
use Rattle.cuts.proofs.PressLaws.{count_rows, rows_few, press_both, press_short}
use Rattle.cuts.proofs.CutLaws.{cost_map, wanted_map}
use Rattle.cuts.proofs.LikeRows.{Trade}
use Rattle.cuts.proofs.SumLaws.{end, end_is}
use Rattle.cuts.proofs.CheapestLaws.{chosen_right, chosen_wanted}

-- ---- for any limit `more` of a block of rows and `moreRuns` of a block of runs that agree

module _ (more moreRuns : Row → List Row → ℕ) (trade : Trade block_bytes more SameSet)
    (limit : SameLimit SameSet more (λ g gs. moreRuns (summary g) (map summary gs))) where
  module _ (gs : List (List Row)) (c : Chains SameSet gs) where
    js : List ℕ
    js = chosen block_bytes moreRuns (map summary gs)

    groups_wanted : Wanted (λ b. block_bytes (flat b)) (λ g gs. moreRuns (summary g) (map summary gs)) gs js
    unfolding js
    groups_wanted =
        wanted_map summary block_bytes (λ b. block_bytes (flat b)) block_flat moreRuns (λ g gs. moreRuns (summary g) (map summary gs)) (λ x xs. refl) gs js
        (chosen_wanted block_bytes moreRuns (map summary gs))

    rows_wanted : Wanted block_bytes more (flat gs) (group_rows js gs)
    rows_wanted = wanted_rows block_bytes more (λ g gs. moreRuns (summary g) (map summary gs)) SameSet trade limit gs c js groups_wanted

    rows_cost : best_cost block_bytes moreRuns (map summary gs) ≡ cost block_bytes (group_rows js gs) (flat gs)
    unfolding js
    rows_cost =
        sym (chosen_right block_bytes moreRuns (map summary gs)).1
        ∙ cost_map summary block_bytes (λ b. block_bytes (flat b)) block_flat js gs ∙ cost_rows block_bytes js gs

  module _ (rows : List Row) (o : AllOne rows) (runs : List Row) (p : runs ≡ press rows) where
    runs_are : runs ≡ map summary (group rows)
    runs_are = p ∙ press_is rows o

    cut_is : in_rows (chosen block_bytes moreRuns runs) runs ≡ group_rows (js (group rows) (chains_group rows o)) (group rows)
    unfolding js
    cut_is =
        ap₂ in_rows (ap (chosen block_bytes moreRuns) runs_are) runs_are
        ∙ in_rows_groups (chosen block_bytes moreRuns (map summary (group rows))) (group rows) (rw (flat_group rows) o)

    -- The chosen cutting of the runs in rows is wanted of the rows, and costs what is best for the runs.
    pub cut_wanted : Wanted block_bytes more rows (in_rows (chosen block_bytes moreRuns runs) runs)
    cut_wanted = subst₂ (Wanted block_bytes more) (flat_group rows) (sym cut_is) (rows_wanted (group rows) (chains_group rows o))

    pub cut_cost : best_cost block_bytes moreRuns runs ≡ cost block_bytes (in_rows (chosen block_bytes moreRuns runs) runs) rows
    cut_cost =
        ap (best_cost block_bytes moreRuns) runs_are ∙ rows_cost (group rows) (chains_group rows o)
        ∙ ap₂ (cost block_bytes) (sym cut_is) (flat_group rows)

-- ---- where all rows may stand together

flat_take : (k : ℕ) (gs : List (List Row)) → length (flat (take k gs)) ≤ length (flat gs)
flat_take zero gs = omega arith
flat_take (suc k) [] = omega arith
flat_take (suc k) (g ∷ gs) = omega (arith, length-append g (flat gs), length-append g (flat (take k gs)), flat_take k gs)

all_limit : SameLimit SameSet all_more (λ g gs. all_more (summary g) (map summary gs))
all_limit = record {
  to = λ g gs k c h. together_all (length (g ++ flat (take k gs))) (g ++ flat gs) (flat_take (suc k) (g ∷ gs));
  from = λ g gs k c h p. omega (arith, length-map gs summary);
  short = λ g gs. omega (arith, length-map gs summary);
}

-- ---- as the code has it

module _ (sets sizes : List ℕ) (runs : List Row) (before : List ℕ) (j : ℕ) (ready : Ready sets sizes before) (p : Pressed sets sizes 0 runs j) where
  ends : end runs j ≡ press (rows_of sets sizes)
  ends = end_is runs j ∙ p.are

  -- There are no more runs than rows.
  runs_few : length (end runs j) ≤ length sets
  runs_few = omega (arith, ap length ends, press_short (rows_of sets sizes), rows_few sets sizes)

  -- The runs are ready where the rows are.
  pub ready_runs : ReadyRuns (end runs j) before
  ready_runs = record {
    few = omega (arith, runs_few, ready.few);
    sum = omega (arith, ap value_bytes ends, (press_both (rows_of sets sizes)).0, ready.sum);
    all = omega (arith, ap row_count ends, (press_both (rows_of sets sizes)).1, count_rows sets sizes, ready.few);
    room = omega (arith, runs_few, ready.room);
  }

  -- What is planned for the runs is right for the rows.
  pub planned : (plan : Plan) (after : List ℕ) → PlannedRuns all_more (end runs j) plan before after → Planned block_bytes all_more (rows_of sets sizes) plan before after
  planned plan after d = record {
    within = d.within;
    wanted = rw d.cut (cut_wanted all_more all_more row_trade all_limit (rows_of sets sizes) (rows_one sets sizes) _ ends);
    bytes = rw d.cut (d.bytes ∙ cut_cost all_more all_more row_trade all_limit (rows_of sets sizes) (rows_one sets sizes) _ ends);
    kept = d.kept;
  }

-- The lists for the costs and the first blocks are long enough for the runs.
pub costs_room : (runs : List Row) (costs : List ℕ) (j : ℕ) → length costs ≡ length runs + 1 → length (end runs j) < length costs
costs_room runs costs j e = omega (arith, ap length (end_is runs j), length-drop j runs)

pub firsts_room : (runs : List Row) (firsts : List ℕ) (j : ℕ) → length firsts ≡ length runs → length (end runs j) ≤ length firsts
firsts_room runs firsts j e = omega (arith, ap length (end_is runs j), length-drop j runs)

pub ruleset rows_plan_needs = (ready_runs, costs_room, firsts_room, planned)
