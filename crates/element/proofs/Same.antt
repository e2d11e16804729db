-- Observations of a value for each element are the same exactly when they are equal as lists.
use Prim.Native.Nat.{ℕ, ◌+◌, ◌-◌, ◌≤◌}
use mathlib.Core.Path.{◌≡◌, refl, sym, ap, ◌∙◌}
use mathlib.Core.Bool.{false}
use mathlib.Core.List.{List, [], ◌∷◌}
use native.Mathlib.Omega.{arith}
use lib.ListN.{length, get_or}
use lib.Seq.{ext_get_or}
use Rattle.text.proofs.Bools.{bools, never}
use Rattle.element.specs.Observation.{Observation, is_present, value_at, is_held}
use Rattle.element.specs.Same.{Same}
use Rattle.element.specs.Table.{elements}

-- Two values of absent elements are equal.
absent_equal : (x y : List ℕ) → is_present x ≡ false → is_present x ≡ is_present y → x ≡ y
absent_equal [] [] e f = refl
absent_equal [] (b ∷ y) e f = never f
absent_equal (a ∷ x) y e f = never (sym e)

module _ (left right : Observation) where
  -- Each value is the same.
  same_values : Same left right → (number : ℕ) → 1 ≤ number → number ≤ elements → value_at number left ≡ value_at number right
  same_values same number low high =
      bools (is_held left number)
      (λ e. same.bytes number low high e)
      (λ e. absent_equal (value_at number left) (value_at number right) e (same.present number low high))

  -- The value at an index is that of the number one more.
  value_at_lem : (i : ℕ) → value_at (i + 1) left ≡ value_at (i + 1) right → get_or left i [] ≡ get_or right i []
  value_at_lem i e = let k : i + 1 - 1 ≡ i = omega arith in rw k at e

  -- Observations of a value for each element that are the same are equal.
  pub same_equal : length left ≡ elements → length right ≡ elements → Same left right → left ≡ right
  same_equal l r same = ext_get_or [] left right (l ∙ sym r) (λ i h. value_at_lem i (same_values same (i + 1) (omega arith) (omega arith)))

  -- Equal ones are the same.
  pub equal_same : left ≡ right → Same left right
  equal_same e = record {
    present = λ number low high. ap (λ (o : Observation). is_held o number) e;
    bytes = λ number low high held. ap (λ (o : Observation). value_at number o) e;
  }
