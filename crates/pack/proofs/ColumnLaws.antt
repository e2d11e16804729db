-- Laws of the columns of a block: the set of its rows' elements, and the list that is made of it.
use Prim.Native.Nat.{ℕ, ◌+◌, ◌≤◌, ◌<◌}
use mathlib.Core.Path.{◌≡◌, refl, sym, ap, ◌∙◌}
use mathlib.Core.Bool.{Bool, true, false, cond}
use mathlib.Core.List.{List, [], ◌∷◌, ◌++◌, map, append-nil}
use native.Mathlib.Numerals.{add-one}
use native.Mathlib.Omega.{arith}
use lib.Bits.{bit_or}
use lib.ListN.{length, take, set, get_or, length-set}
use lib.Seq.{take-suc, take-suc-set}
use Rattle.text.proofs.Bools.{bools}
use Rattle.element.specs.Set.{has, joined}
use Rattle.element.specs.Table.{elements, column_order}
use Rattle.element.specs.Observation.{Observation, set_of}
use Rattle.cuts.specs.Block.{union}
use Rattle.layout.specs.Written.{passing, columns_of}
use Rattle.layout.specs.Cost.{as_row}
use Rattle.layout.proofs.BlockBytes.{columns_set}
use Rattle.pack.specs.Inner.{columns_in}

-- The sets of the rows together are the set of the elements present in some row.
joined_rows : (all : ℕ) (rows : List Observation) → joined all (map set_of rows) ≡ union all (map as_row rows)
unfolding joined union
joined_rows all [] = refl
joined_rows all (o ∷ os) = joined_rows (bit_or all (set_of o)) os

-- So its elements are the columns of the rows.
pub columns_joined : (rows : List Observation) → columns_in (joined 0 (map set_of rows)) ≡ columns_of rows
unfolding columns_in
columns_joined rows = ap (λ (s : ℕ). passing (has s) column_order) (joined_rows 0 rows) ∙ sym (columns_set rows)

-- Those that pass a test, and one number more.
passing_append : (p : ℕ → Bool) (xs : List ℕ) (e : ℕ) → passing p (xs ++ (e ∷ [])) ≡ passing p xs ++ cond (p e) (e ∷ []) []
unfolding passing
passing_append p [] e = refl
passing_append p (x ∷ xs) e = bools (p x) (λ q. rw q (ap (λ (l : List ℕ). x ∷ l) (passing_append p xs e))) (λ q. rw q (passing_append p xs e))

-- The first k of the column order are looked at, and n of them are listed.
pub record Listing (all : ℕ) (columns : List ℕ) (n k : ℕ) : Type 0 where
  pub most : k ≤ elements
  pub few : n ≤ k
  pub long : length columns ≡ elements
  pub are : take n columns ≡ passing (has all) (take k column_order)

pub list_begin : (all : ℕ) (columns : List ℕ) → length columns ≡ elements → Listing all columns 0 0
unfolding passing
list_begin all columns h = record { most = omega arith; few = omega arith; long = h; are = refl }

module _ {all : ℕ} {columns : List ℕ} {n k : ℕ} (l : Listing all columns n k) (h : k < elements) where
  more : passing (has all) (take (k + 1) column_order)
      ≡ passing (has all) (take k column_order) ++ cond (has all (get_or column_order k 0)) (get_or column_order k 0 ∷ []) []
  more = ap (λ (x : ℕ). passing (has all) (take x column_order)) (add-one k)
      ∙ (ap (passing (has all)) (take-suc column_order k 0 h) ∙ passing_append (has all) (take k column_order) (get_or column_order k 0))

  module _ (element : ℕ) (is : element ≡ get_or column_order k 0) where
    -- An element of the set is listed.
    pub list_in : has all element ≡ true → Listing all (set columns n element) (n + 1) (k + 1)
    list_in e = record {
      most = omega arith;
      few = omega (arith, l.few);
      long = length-set columns n element ∙ l.long;
      are =
          ap (λ (x : ℕ). take x (set columns n element)) (add-one n)
          ∙ (take-suc-set columns n element (omega (arith, l.few, l.long))
          ∙ (ap (λ (x : List ℕ). x ++ (element ∷ [])) l.are
          ∙ sym (more ∙ rw (← is, e))));
    }

    -- Another one is not.
    pub list_out : has all element ≡ false → Listing all columns n (k + 1)
    list_out e = record {
      most = omega arith;
      few = omega (arith, l.few);
      long = l.long;
      are = l.are ∙ sym (more ∙ rw (← is, e) (append-nil (passing (has all) (take k column_order))));
    }

-- All of the column order is looked at.
pub list_end : {all : ℕ} {columns : List ℕ} {n k : ℕ} → Listing all columns n k → elements ≤ k → take n columns ≡ columns_in all
unfolding columns_in
list_end {all} {columns} {n} {k} l h =
    let e : k ≡ elements = omega (arith, l.most) in
    rw e at l.are
