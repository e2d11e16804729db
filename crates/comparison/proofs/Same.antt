-- What it means that two texts compare as the same: both are accepted, as one and the same list of observations.
use Prim.Native.Nat.{ℕ, zero, suc, ◌+◌, ◌≤◌, ◌<◌}
use mathlib.Core.Path.{◌≡◌, refl, ap, sym, ◌∙◌}
use mathlib.Core.List.{List, [], ◌∷◌}
use native.Mathlib.Omega.{arith}
use lib.Dec.{eqb}
use lib.ListN.{length, get_or}
use lib.Seq.{ext_get_or}
use borrow.Author.Tests.{eq-eqb, eqb-true, eqb-false}
use Rattle.text.specs.Numbered.{numbered}
use Rattle.text.specs.Part.{same}
use Rattle.text.proofs.Bools.{bools}
use Rattle.text.proofs.Parts.{same_is, same_refl}
use Rattle.element.specs.Table.{elements}
use Rattle.element.specs.Observation.{Observation}
use Rattle.report.specs.Report.{Outcome, accepted, refused, read}
use Rattle.comparison.specs.declared.Compared.TheVariants.{Same, Differ}
use Rattle.comparison.specs.Comparison.{differs_from, first_element, first_difference, compared_of}
use Rattle.report.proofs.Long.{AllLong, Long, read_long}

-- Where no element differs the values are equal.
differs_none : (left index : ℕ) (f g : ℕ → List ℕ) → differs_from left index f g ≡ 0 → (e : ℕ) → index ≤ e → e < index + left → f e ≡ g e
unfolding differs_from
differs_none zero index f g d e h l = absurd (omega arith)
differs_none (suc left) index f g d e h l =
    bools (same (f index) (g index))
    (λ s. bools (eqb e index)
    (λ q. rw (eqb-true e index q) (same_is (f index) (g index) s))
    (λ q. let n = eqb-false e index q in differs_none left (index + 1) f g (rw s at d) e (omega arith) (omega arith)))
    (λ s. let z : index + 1 ≡ 0 = rw s at d in absurd (omega arith))

-- Nothing differs from itself.
differs_self : (left index : ℕ) (f : ℕ → List ℕ) → differs_from left index f f ≡ 0
unfolding differs_from
differs_self zero index f = refl
differs_self (suc left) index f = rw (same_refl (f index)) (differs_self left (index + 1) f)

-- Observations with a value for each element, none of which differs, are equal.
element_none : (a b : Observation) → length a ≡ elements → length b ≡ elements → first_element a b ≡ 0 → a ≡ b
unfolding first_element
element_none a b h k e =
    ext_get_or [] a b (h ∙ sym k) (λ i l. differs_none elements 0 (λ x. get_or a x []) (λ x. get_or b x []) e i (omega arith) (omega arith))

element_self : (a : Observation) → first_element a a ≡ 0
unfolding first_element
element_self a = differs_self elements 0 (λ x. get_or a x [])

-- Lists without a difference are equal.
lists_same : (before n : ℕ) (xs ys : List Observation) → AllLong xs → AllLong ys → first_difference before xs ys ≡ Same n → (xs ≡ ys) × (before + length xs ≡ n)
unfolding first_difference
lists_same before n [] [] h k e = let q : before ≡ n = cc in (refl, omega arith)
lists_same before n [] (b ∷ ys) h k e = absurd (let z : ◌≡◌ {A = ℕ} 0 1 = cc in omega arith)
lists_same before n (a ∷ xs) [] h k e = absurd (let z : ◌≡◌ {A = ℕ} 0 1 = cc in omega arith)
lists_same before n (a ∷ xs) (b ∷ ys) h k e =
    bools (eqb (first_element a b) 0)
    (λ q.
    let i = lists_same (before + 1) n xs ys h.1 k.1 (rw q at e) in
    let p : a ≡ b = element_none a b h.0 k.0 (eqb-true (first_element a b) 0 q) in
    (ap (λ (x : Observation). x ∷ xs) p ∙ ap (λ (x : List Observation). b ∷ x) i.0, omega (arith, i.1)))
    (λ q. absurd (let d : Differ (before + 1) (numbered (first_element a b)) ≡ Same n = rw q at e in let z : ◌≡◌ {A = ℕ} 0 1 = cc in omega arith))

-- A list has no difference from itself.
list_self : (before : ℕ) (xs : List Observation) → first_difference before xs xs ≡ Same (before + length xs)
unfolding first_difference
list_self before [] = let q : before ≡ before + 0 = omega arith in ap Same q
list_self before (a ∷ xs) =
    let q : before + 1 + length xs ≡ before + suc (length xs) = omega arith in
    rw (eq-eqb (first_element a a) 0 (element_self a)) (list_self (before + 1) xs ∙ ap Same q)

outcomes_same : (x y : Outcome) (n : ℕ) → Long x → Long y → compared_of x y ≡ Same n
    → (rows : List Observation) × (x ≡ accepted rows) × (y ≡ accepted rows) × (length rows ≡ n)
outcomes_same (refused x) y n h k e = absurd (let z : ◌≡◌ {A = ℕ} 0 1 = cc in omega arith)
outcomes_same (accepted xs) (refused x) n h k e = absurd (let z : ◌≡◌ {A = ℕ} 0 1 = cc in omega arith)
outcomes_same (accepted xs) (accepted ys) n h k e =
    let s = lists_same 0 n xs ys h k e in
    let c : length xs ≡ n = omega (arith, s.1) in
    (xs, refl, ap accepted (sym s.0), c)

-- Texts that compare as the same n are both accepted, as one and the same list of n observations.
pub same_reads : (first second : List ℕ) (n : ℕ) → compared_of (read first) (read second) ≡ Same n
    → (rows : List Observation) × (read first ≡ accepted rows) × (read second ≡ accepted rows) × (length rows ≡ n)
same_reads first second n e = outcomes_same (read first) (read second) n (read_long first) (read_long second) e

-- And texts that are accepted as one and the same list compare as the same.
pub reads_same : (first second : List ℕ) (rows : List Observation) → read first ≡ accepted rows → read second ≡ accepted rows
    → compared_of (read first) (read second) ≡ Same (length rows)
reads_same first second rows a b =
    let q : 0 + length rows ≡ length rows = omega arith in
    rw (a, b) (list_self 0 rows ∙ ap Same q)
