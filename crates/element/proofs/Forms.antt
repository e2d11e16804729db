-- Laws of the faults of values, and which elements have a value.
use Prim.Native.Nat.{ℕ, zero, suc, ◌+◌, ◌<◌, ◌≤◌}
use mathlib.Core.Path.{◌≡◌, refl, sym, ap, ◌∙◌}
use mathlib.Core.Bool.{Bool, true, false, not, ◌||◌}
use mathlib.Core.List.{List, [], ◌∷◌}
use native.Mathlib.Omega.{arith}
use lib.Dec.{T, eqb, eqb-zero-suc}
use Rattle.std.specs.Prelude.{Ok, Err}
use lib.ListN.{length, get_or, get_or-eq_default}
use Rattle.text.specs.Class.{leading, is_only}
use Rattle.text.specs.Part.{starts}
use Rattle.text.proofs.Table.{below}
use Rattle.refusal.specs.declared.Kind.TheVariants.{WrongForm}
use Rattle.value.specs.Characters.{alphanumeric}
use Rattle.value.specs.Check.{less_value}
use Rattle.value.specs.Designation.{is_numbered_comet, perm_id, is_minor_planet, is_comet, prov_id, art_sat}
use Rattle.value.specs.Numeral.{is_digits, is_count}
use Rattle.element.specs.Form.{value_of, fault_of, has_value}
use Rattle.element.specs.Table.{elements, forms, form_of}
use Rattle.element.specs.declared.form.Form.TheVariants.{Unknown}

-- An absent element has no fault.
pub fault_absent : (index : ℕ) → fault_of index [] ≡ Ok tt
unfolding fault_of
fault_absent index = refl

-- A text of some bytes has the fault that its value says.
pub fault_present : (index : ℕ) (text : List ℕ) → (length text ≡ 0 → ⊥) → fault_of index text ≡ less_value (value_of index text)
unfolding fault_of
fault_present index [] h = absurd (h refl)
fault_present index (b ∷ text) h = refl

-- A value of the first four elements that begins with `#` has the wrong form.
hashed : (index : ℕ) → index < 4 → (text : List ℕ) → fault_of index (35 ∷ text) ≡ Err WrongForm
unfolding fault_of value_of perm_id prov_id art_sat alphanumeric is_numbered_comet is_minor_planet is_comet is_count is_digits is_only leading starts
hashed zero h text = refl
hashed (suc zero) h text = refl
hashed (suc (suc zero)) h text = refl
hashed (suc (suc (suc zero))) h text = rw (eqb-zero-suc (length text))
hashed (suc (suc (suc (suc index)))) h text = absurd (omega arith)

-- A value of the first four elements without a fault does not begin with `#`.
pub unhashed : (index : ℕ) → index < 4 → (text : List ℕ) → fault_of index text ≡ Ok tt → get_or text 0 0 ≡ 35 → ⊥
unhashed index h [] fine e = omega arith
unhashed index h (b ∷ text) fine e =
    let bad = sym fine ∙ ap (λ (n : ℕ). fault_of index (n ∷ text)) e ∙ hashed index h text in cc

-- Past the elements there is no form.
pub form_past : (index : ℕ) → elements ≤ index → Unknown ≡ form_of index
form_past index past = sym (get_or-eq_default forms Unknown {n = index} past)

-- The numbers of the elements with a value.
abbrev pub valued : List ℕ
valued = 10 ∷ 11 ∷ 12 ∷ 13 ∷ 15 ∷ 16 ∷ 17 ∷ 18 ∷ 19 ∷ 20 ∷ 21 ∷ 23 ∷ 24 ∷ 27 ∷ 32 ∷ 33 ∷ 34 ∷ 35 ∷ 36 ∷ 38 ∷ 39 ∷ 40 ∷ 41 ∷ 42 ∷ 43 ∷ []

-- The number is in the list.
abbrev pub is_among : List ℕ → ℕ → Bool
is_among [] number = false
is_among (first ∷ rest) number = eqb number first || is_among rest number

-- Both tests pass or none does.
alike : Bool → Bool → Bool
alike true b = b
alike false b = not b

-- Tests that are alike are equal.
alike_is : (a b : Bool) → T (alike a b) → a ≡ b
unfolding alike
alike_is true true t = refl
alike_is true false t = absurd t
alike_is false true t = absurd t
alike_is false false t = refl

-- The element has a value just where the list has its number.
valued_test : ℕ → Bool
valued_test index = alike (has_value index) (is_among valued (index + 1))

-- Elements with a value are 10 to 13, 15 to 21, 23, 24, 27, 32 to 36 and 38 to 43.
pub valued_are : (index : ℕ) → index < elements → has_value index ≡ is_among valued (index + 1)
unfolding valued_test alike has_value
valued_are index h = alike_is _ _ (below valued_test elements tt index h)
