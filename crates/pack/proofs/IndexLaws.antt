-- Laws of an index that notes every observation of a report.
use Prim.Native.Nat.{ℕ, ◌/◌, ◌%◌, ◌^◌, ◌<◌}
use mathlib.Core.Path.{◌≡◌, refl, sym, ap, ◌∙◌}
use mathlib.Core.Bool.{Bool, true, false}
use mathlib.Core.List.{List, []}
use native.Mathlib.Omega.{arith}
use lib.ListN.{length, take, drop, get_or}
use Rattle.element.specs.Table.{elements}
use Rattle.element.specs.Observation.{is_present, bit}
use Rattle.element.proofs.Sets.{has_set}
use Rattle.report.specs.Index.{row_at, noted_value}
use Rattle.report.specs.declared.index.Row.{Row}
use Rattle.report.proofs.IndexLaws.{noted_value_lem}
use Rattle.layout.proofs.BlockReads.{absent_is}
use Rattle.pack.specs.Inner.{observed, Indexed, value_in}

-- A bit that is set stands for a test that passes, and one that is not for one that fails.
bit_set : (t : Bool) → bit t ≡ 1 → t ≡ true
bit_set true e = refl
bit_set false e = absurd (omega arith)

bit_clear : (t : Bool) → (bit t ≡ 1 → ⊥) → t ≡ false
bit_clear true h = absurd (h refl)
bit_clear false h = refl

module _ {report : List ℕ} {index : List Row} (row element : ℕ) (x : Indexed report index) (inside : row < length (observed report)) where
  -- Bit e of a row's set says whether the row has a value of element e.
  pub row_bit : (row_at index row).present / 2 ^ element % 2 ≡ bit (is_present (value_in report row element))
  row_bit = ap (λ (s : ℕ). s / 2 ^ element % 2) (x.noted row inside).set_is ∙ has_set (get_or (observed report) row []) element

  -- What is read off the index is the row's value.
  pub value_is : element < elements → noted_value report index row element ≡ value_in report row element
  value_is known = noted_value_lem index row (x.noted row inside) (omega (arith, x.room)) element known

  -- It has none.
  pub value_absent : ((row_at index row).present / 2 ^ element % 2 ≡ 1 → ⊥) → [] ≡ value_in report row element
  value_absent h = sym (absent_is (value_in report row element) (bit_clear (is_present (value_in report row element)) (λ e. h (row_bit ∙ e))))

  module _ (known : element < elements) (h : (row_at index row).present / 2 ^ element % 2 ≡ 1) where
    present : is_present (value_in report row element) ≡ true
    present = bit_set (is_present (value_in report row element)) (sym row_bit ∙ h)

    -- It has one, which is as long as the index notes.
    pub value_long : get_or (row_at index row).lengths element 0 ≡ length (value_in report row element)
    value_long = ((x.noted row inside).shows element known present).length_is

    -- And lies where the index notes.
    pub value_there : take (get_or (row_at index row).lengths element 0) (drop (get_or (row_at index row).starts element 0) report)
        ≡ value_in report row element
    value_there =
        let s = (x.noted row inside).shows element known present in
        rw (s.start_is, s.length_is) s.holds
