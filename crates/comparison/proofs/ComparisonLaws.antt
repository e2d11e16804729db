-- Laws of the comparison: one for each step and each end of its two loops.
use Prim.Native.Nat.{ℕ, zero, suc, ◌+◌, ◌-◌, ◌≤◌, ◌<◌}
use mathlib.Core.Path.{◌≡◌, refl, sym, ap, ◌∙◌}
use mathlib.Core.Bool.{Bool, true, false}
use mathlib.Core.List.{List, [], ◌∷◌}
use native.Mathlib.Numerals.{add-one}
use native.Mathlib.Omega.{arith}
use lib.ListN.{length, drop, get_or, replicate, drop_of_length-le}
use lib.Seq.{drop-cons}
use borrow.Author.Tests.{eq-eqb, ne_eqb}
use native.Mathlib.Decide.{dec_le}
use Rattle.std.specs.Prelude.{Option, Some, None, is_some, min}
use Rattle.text.specs.Numbered.{numbered}
use Rattle.text.specs.Part.{same}
use Rattle.element.specs.Table.{elements}
use Rattle.element.specs.Observation.{Observation}
use Rattle.report.specs.Report.{accepted, read, row_limit}
use Rattle.report.specs.Index.{room_in, row_at, Noted, noted_value}
use Rattle.report.specs.declared.index.Row.{Row}
use Rattle.report.proofs.IndexLaws.{noted_value_lem}
use Rattle.comparison.specs.declared.Compared.TheVariants.{Same, Differ}
use Rattle.comparison.specs.Comparison.{differs_from, first_element, first_difference, compared_of}
use Rattle.comparison.specs.Steps.{observations_of, NotesAll}

-- Element by element.

-- What is left of the elements decides.
abbrev pub Undecided : (ℕ → List ℕ) → (ℕ → List ℕ) → ℕ → Type 0
Undecided first second element = differs_from elements 0 first second ≡ differs_from (elements - element) element first second

module _ (first second : ℕ → List ℕ) (element : ℕ) (inv : Undecided first second element) where
  one_less : element < elements → elements - element ≡ suc (elements - (element + 1))
  one_less h = omega arith

  module _ (h : element < elements) (v w : List ℕ) (p : v ≡ first element) (q : w ≡ second element) where
    values : (t : Bool) → same v w ≡ t → same (first element) (second element) ≡ t
    values t e = rw (← p, ← q) e

    -- The values are the same: those of the elements after it decide.
    pub differs_on : same v w ≡ true → Undecided first second (element + 1)
    unfolding differs_from
    differs_on e = inv ∙ rw (one_less h, values true e)

    -- They differ.
    pub differs_here : same v w ≡ false → Some (element + 1) ≡ numbered (differs_from elements 0 first second)
    unfolding differs_from
    differs_here e = rw (inv, one_less h, values false e, add-one element)

  -- No element is left.
  pub differs_end : elements ≤ element → None ≡ numbered (differs_from elements 0 first second)
  unfolding differs_from
  differs_end h = let z : elements - element ≡ 0 = omega arith in rw (inv, z)

-- The same values differ in the same element.
differs_same : (left index : ℕ) (f f' g g' : ℕ → List ℕ) → ((e : ℕ) → e < index + left → f e ≡ f' e) → ((e : ℕ) → e < index + left → g e ≡ g' e)
    → differs_from left index f g ≡ differs_from left index f' g'
unfolding differs_from
differs_same zero index f f' g g' p q = refl
differs_same (suc left) index f f' g g' p q =
    rw (p index (omega arith), q index (omega arith), differs_same left (index + 1) f f' g g' (λ e h. p e (omega arith)) (λ e h. q e (omega arith)))

-- Whether there is a number.
some_above : (n : ℕ) (d : Option ℕ) → d ≡ numbered n → is_some d ≡ true → n ≡ 0 → ⊥
some_above zero d e z h = let q : is_some (numbered 0) ≡ true = rw e at z in absurd (let y : ◌≡◌ {A = ℕ} 0 1 = cc in omega arith)
some_above (suc n) d e z h = omega arith

none_zero : (n : ℕ) (d : Option ℕ) → d ≡ numbered n → is_some d ≡ false → n ≡ 0
none_zero zero d e z = refl
none_zero (suc n) d e z = let q : is_some (numbered (suc n)) ≡ false = rw e at z in absurd (let y : ◌≡◌ {A = ℕ} 0 1 = cc in omega arith)

-- Row by row.

-- An index of as many rows as a report can have, and one for the reader's own use, has room for every observation.
pub room_all : (row : Row) → room_in (replicate (row_limit + 1) row) ≡ row_limit
room_all row = refl

-- The observations of an accepted text.
observations_are : (t : List ℕ) (rows : List Observation) → read t ≡ accepted rows → observations_of (read t) ≡ rows
unfolding observations_of
observations_are t rows e = rw e

-- The observation of a row is the one that the index notes there.
row_noted : {t : List ℕ} {x : List Row} {n : ℕ} → NotesAll t x n → (row : ℕ) → row < n → (e : ℕ) → e < elements
    → noted_value t x row e ≡ get_or (get_or (observations_of (read t)) row []) e []
row_noted {t} {x} {n} all row h e k =
    let a = all.accepts in
    let few : row < row_limit = omega (arith, a.few) in
    let z : 0 + row ≡ row = omega arith in
    let m : Noted t (row_at x row) (get_or a.observations row []) _ = rw z at (a.noted row few (omega arith)) in
    noted_value_lem x row m (omega (arith, all.holds)) e k ∙ rw (observations_are t a.observations a.is)

module _ (t u : List ℕ) where
  -- What the loop over the rows keeps: the rows that are left decide.
  abbrev pub Left : ℕ → Type 0
  Left row = compared_of (read t) (read u) ≡ first_difference row (drop row (observations_of (read t))) (drop row (observations_of (read u)))

  module _ {x y : List Row} {n m : ℕ} (a : NotesAll t x n) (b : NotesAll u y m) where
    first_long : length (observations_of (read t)) ≡ n
    first_long = rw (observations_are t a.accepts.observations a.accepts.is) a.accepts.count

    second_long : length (observations_of (read u)) ≡ m
    second_long = rw (observations_are u b.accepts.observations b.accepts.is) b.accepts.count

    pub rows_start : Left 0
    unfolding observations_of
    rows_start = rw (a.accepts.is, b.accepts.is)

    module _ (row : ℕ) (inv : Left row) where
      first_cons : row < n → drop row (observations_of (read t)) ≡ get_or (observations_of (read t)) row [] ∷ drop (suc row) (observations_of (read t))
      first_cons h = drop-cons (observations_of (read t)) row [] (omega (arith, first_long))

      second_cons : row < m → drop row (observations_of (read u)) ≡ get_or (observations_of (read u)) row [] ∷ drop (suc row) (observations_of (read u))
      second_cons h = drop-cons (observations_of (read u)) row [] (omega (arith, second_long))

      first_none : n ≤ row → drop row (observations_of (read t)) ≡ []
      first_none h = drop_of_length-le (observations_of (read t)) {i = row} (omega (arith, first_long))

      second_none : m ≤ row → drop row (observations_of (read u)) ≡ []
      second_none h = drop_of_length-le (observations_of (read u)) {i = row} (omega (arith, second_long))

      -- One list ends first.
      pub one_ends : (both : ℕ) → both ≡ min n m → row ≡ both → (n ≡ m → ⊥) → Differ (both + 1) None ≡ compared_of (read t) (read u)
      unfolding first_difference
      one_ends both e q z = ap (λ (k : ℕ). Differ (k + 1) None) (sym q) ∙ go (dec_le n m)
        where
          go : Dec (n ≤ m) → Differ (row + 1) None ≡ compared_of (read t) (read u)
          go (yes h) = sym (inv ∙ rw (first_none (omega arith), second_cons (omega arith)))
          go (no h) = sym (inv ∙ rw (first_cons (omega arith), second_none (omega arith)))

      -- Both do.
      pub both_end : row ≡ min n m → n ≡ m → Same n ≡ compared_of (read t) (read u)
      unfolding first_difference
      both_end e z = let q : n ≡ row = omega arith in ap Same q ∙ sym (inv ∙ rw (first_none (omega arith), second_none (omega arith)))

      module _ (h : row < n) (k : row < m) (d : Option ℕ) (e : d ≡ numbered (differs_from elements 0 (noted_value t x row) (noted_value u y row))) where
        element_is : differs_from elements 0 (noted_value t x row) (noted_value u y row)
            ≡ first_element (get_or (observations_of (read t)) row []) (get_or (observations_of (read u)) row [])
        unfolding first_element
        element_is = differs_same elements 0 _ _ _ _ (λ i l. row_noted a row h i (omega arith)) (λ i l. row_noted b row k i (omega arith))

        number_is : d ≡ numbered (first_element (get_or (observations_of (read t)) row []) (get_or (observations_of (read u)) row []))
        number_is = e ∙ ap numbered element_is

        -- A row differs.
        pub rows_differ : is_some d ≡ true → Differ (row + 1) d ≡ compared_of (read t) (read u)
        unfolding first_difference
        rows_differ z =
            ap (Differ (row + 1)) number_is
            ∙ sym (inv ∙ rw (first_cons h, second_cons k, ne_eqb (first_element (get_or (observations_of (read t)) row []) (get_or (observations_of (read u)) row [])) 0 (some_above _ d number_is z)))

        -- A row is the same in both.
        pub rows_on : is_some d ≡ false → Left (row + 1)
        unfolding first_difference
        rows_on z =
            inv
            ∙ rw (first_cons h, second_cons k, eq-eqb (first_element (get_or (observations_of (read t)) row []) (get_or (observations_of (read u)) row [])) 0 (none_zero _ d number_is z), add-one row)
