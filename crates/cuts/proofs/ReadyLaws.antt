-- The input is ready where the tests say so, and the promise follows from what was planned.
use mathlib.Core.Path.{◌≡◌, refl, sym, ◌∙◌}
use mathlib.Core.Bool.{Bool, true, false, ◌&&◌}
use mathlib.Core.List.{List, [], ◌∷◌}
use Prim.Native.Nat.{ℕ, ◌≤◌}
use native.Mathlib.Omega.{arith}
use lib.ListN.{length}
use borrow.Author.Tests.{leb-true, eqb-true}
use lib.Dec.{leb, eqb}
use Rattle.cuts.specs.Runs.{few_runs, press, runs_in, Ready}
use Rattle.cuts.specs.Plan.{ready}
use Rattle.cuts.specs.Block.{most_rows, most_bytes, rows_of, total, value_bytes}
use Rattle.cuts.proofs.PressLaws.{rows_few, press_short, press_count}

-- ---- the promise

-- Both tests pass where they pass together.
and_left : (a b : Bool) → (a && b) ≡ true → a ≡ true
and_left true b e = refl
and_left false b e = e

and_right : (a b : Bool) → (a && b) ≡ true → b ≡ true
and_right true b e = e
and_right false b e = absurd (let z : ◌≡◌ {A = ℕ} 0 1 = cc in omega arith)

-- The values have no more bytes than the sizes say.
sizes_values : (sets sizes : List ℕ) → value_bytes (rows_of sets sizes) ≤ total sizes
unfolding value_bytes total
sizes_values [] sizes = omega arith
sizes_values (m ∷ sets) [] = omega arith
sizes_values (m ∷ sets) (s ∷ sizes) = omega (arith, sizes_values sets sizes)

module _ (marks sets sizes cuts : List ℕ) (b : Bool) (is : b ≡ ready marks sets sizes cuts) where
  -- The input is ready where the test passes.
  pub is_marked : b ≡ true → length marks ≡ length sets
  unfolding ready
  is_marked e = eqb-true (length marks) (length sets) (and_left (eqb (length marks) (length sets)) _ (sym is ∙ e))

  pub is_ready : b ≡ true → Ready sets sizes cuts
  unfolding ready
  is_ready e =
      let all = and_right (eqb (length marks) (length sets)) _ (sym is ∙ e) in
      let limits = and_right (eqb (length sizes) (length sets)) _ all in
      let rest = and_right (leb (length sets) most_rows) _ limits in
      record {
        same = eqb-true (length sizes) (length sets) (and_left (eqb (length sizes) (length sets)) _ all);
        few = leb-true (length sets) most_rows (and_left (leb (length sets) most_rows) _ limits);
        sum = omega (arith, leb-true (total sizes) most_bytes (and_right (leb (length sets) (length cuts)) _ rest), sizes_values sets sizes);
        room = leb-true (length sets) (length cuts) (and_left (leb (length sets) (length cuts)) _ rest);
      }

pub ruleset promise_needs = (is_marked, is_ready)

-- ---- the lists

-- The runs are few where their count says so, and no more than the rows.
pub runs_few : (sets sizes cuts : List ℕ) (n : ℕ) → Ready sets sizes cuts → n ≡ runs_in sets → n ≤ few_runs → length (press (rows_of sets sizes)) ≤ few_runs
runs_few sets sizes cuts n ready e h = omega (arith, press_count sets sizes ready.same)

pub runs_within : (sets sizes cuts : List ℕ) → Ready sets sizes cuts → length (press (rows_of sets sizes)) ≤ most_rows
runs_within sets sizes cuts ready = omega (arith, press_short (rows_of sets sizes), rows_few sets sizes, ready.few)

pub ruleset list_needs = (runs_few, runs_within)
