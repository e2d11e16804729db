-- Cut lists of rows and of what the rows are turned into, and what a cut list is where all rows may stand together.
use mathlib.Core.Path.{◌≡◌, refl, sym, ap, ◌∙◌}
use mathlib.Core.Bool.{cond}
use mathlib.Core.List.{List, [], ◌∷◌, map}
use Prim.Native.Nat.{ℕ, ◌≤◌, ◌<◌, zero, suc}
use native.Mathlib.Omega.{arith}
use lib.Dec.{eqb}
use lib.ListN.{length, take, drop, length-drop}
use Rattle.cuts.specs.Cuts.{cost, Cuts, stretch, Wanted}
use Rattle.cuts.specs.Block.{total}

module _ {A B : Type 0} (f : A → B) where
  -- The first rows, and the rest, of what rows are turned into.
  pub take_map : (k : ℕ) (xs : List A) → take k (map f xs) ≡ map f (take k xs)
  take_map zero xs = refl
  take_map (suc k) [] = refl
  take_map (suc k) (x ∷ xs) = ap (λ (t : List B). f x ∷ t) (take_map k xs)

  pub drop_map : (k : ℕ) (xs : List A) → drop k (map f xs) ≡ map f (drop k xs)
  drop_map zero xs = refl
  drop_map (suc k) [] = refl
  drop_map (suc k) (x ∷ xs) = drop_map k xs

  module _ (C : List B → ℕ) (D : List A → ℕ) (same : (b : List A) → C (map f b) ≡ D b) where
    -- A cut list costs the same of both.
    pub cost_map : (ks : List ℕ) (rows : List A) → cost C ks (map f rows) ≡ cost D ks rows
    cost_map [] rows = refl
    cost_map (k ∷ ks) rows = rw (take_map k rows, drop_map k rows, same, cost_map ks (drop k rows))

  module _ (m : B → List B → ℕ) (n : A → List A → ℕ) (same : (x : A) (xs : List A) → m (f x) (map f xs) ≡ n x xs) where
    -- Both have the same cut lists.
    pub cuts_to : (ks : List ℕ) (rows : List A) → Cuts n ks rows → Cuts m ks (map f rows)
    cuts_to [] [] v = tt
    cuts_to [] (x ∷ xs) v = absurd v
    cuts_to (k ∷ ks) [] v = absurd v
    cuts_to (zero ∷ ks) (x ∷ xs) v = absurd v
    cuts_to (suc k ∷ ks) (x ∷ xs) v = (omega (arith, same x xs, v.0), rw (drop_map k xs) (cuts_to ks (drop k xs) v.1))

    pub cuts_from : (ks : List ℕ) (rows : List A) → Cuts m ks (map f rows) → Cuts n ks rows
    cuts_from [] [] v = tt
    cuts_from [] (x ∷ xs) v = absurd v
    cuts_from (k ∷ ks) [] v = absurd v
    cuts_from (zero ∷ ks) (x ∷ xs) v = absurd v
    cuts_from (suc k ∷ ks) (x ∷ xs) v = (omega (arith, same x xs, v.0), cuts_from ks (drop k xs) (rw (drop_map k xs) at v.1))

-- The cut list that is wanted of what rows are turned into is wanted of the rows.
pub wanted_map : {A B : Type 0} (f : A → B) (C : List B → ℕ) (D : List A → ℕ) (same : (b : List A) → C (map f b) ≡ D b)
    (m : B → List B → ℕ) (n : A → List A → ℕ) (limit : (x : A) (xs : List A) → m (f x) (map f xs) ≡ n x xs)
    (rows : List A) (ks : List ℕ) → Wanted C m (map f rows) ks → Wanted D n rows ks
wanted_map f C D same m n limit rows ks w =
    let c : (js : List ℕ) → cost C js (map f rows) ≡ cost D js rows = λ js. cost_map f C D same js rows in
    record {
      cuts = cuts_from f m n limit ks rows w.cuts;
      least = λ js v. omega (arith, w.least js (cuts_to f m n limit js rows v), c js, c ks);
      last = λ js v e. w.last js (cuts_to f m n limit js rows v) (c js ∙ e ∙ sym (c ks));
    }

-- A stretch of what rows are turned into is as long as that of the rows.
pub stretch_map : {A B : Type 0} (f : A → B) (mark : B → ℕ) (m : ℕ) (xs : List A) → stretch mark m (map f xs) ≡ stretch (λ x. mark (f x)) m xs
unfolding stretch
stretch_map f mark m [] = refl
stretch_map f mark m (x ∷ xs) = ap (λ (n : ℕ). cond (eqb (mark (f x)) m) (suc n) 0) (stretch_map f mark m xs)

-- ---- where all rows may stand together

-- Each number is above zero.
abbrev pub Positive : List ℕ → Type 0
Positive [] = Unit
Positive (k ∷ ks) = (0 < k) × Positive ks

-- A cut list has numbers above zero whose sum is the number of rows.
pub cuts_sum : {A : Type 0} (ks : List ℕ) (rows : List A) → Cuts (λ x xs. length xs) ks rows → Positive ks × (total ks ≡ length rows)
unfolding total
cuts_sum [] [] v = (tt, refl)
cuts_sum [] (x ∷ xs) v = absurd v
cuts_sum (k ∷ ks) [] v = absurd v
cuts_sum (zero ∷ ks) (x ∷ xs) v = absurd v
cuts_sum (suc k ∷ ks) (x ∷ xs) v =
    let r = cuts_sum ks (drop k xs) v.1 in ((omega arith, r.0), omega (arith, r.1, length-drop k xs, v.0))

-- Numbers above zero whose sum is the number of rows are a cut list.
pub sum_cuts : {A : Type 0} (ks : List ℕ) (rows : List A) → Positive ks → total ks ≡ length rows → Cuts (λ x xs. length xs) ks rows
unfolding total
sum_cuts [] [] p e = tt
sum_cuts [] (x ∷ xs) p e = absurd (omega arith)
sum_cuts (k ∷ ks) [] p e = absurd (omega (arith, p.0))
sum_cuts (zero ∷ ks) (x ∷ xs) p e = absurd (omega (arith, p.0))
sum_cuts (suc k ∷ ks) (x ∷ xs) p e =
    let h : k ≤ length xs = omega arith in (h, sum_cuts ks (drop k xs) p.1 (omega (arith, length-drop k xs)))
