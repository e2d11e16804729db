-- Laws of the column line: one for each end and for the turn of the loop over its fields, and those of the search among the columns.
use Prim.Native.Nat.{ℕ, zero, suc, ◌≤◌, ◌<◌, ◌+◌, ◌-◌}
use mathlib.Core.Path.{◌≡◌, refl, ap, sym, ◌∙◌}
use mathlib.Core.List.{List, [], ◌∷◌, ◌++◌}
use mathlib.Core.Bool.{Bool, true, false, cond, ◌||◌, true≢false}
use lib.ListN.{length, take, drop, get_or, set, length-set, length-append, replicate}
use lib.Seq.{get_or-set_other}
use lib.Dec.{eqb, ltb}
use borrow.Author.Tests.{eq-eqb, le-ltb, lt-ltb, ltb-true, ltb-false}
use native.Mathlib.Omega.{arith}
use native.Mathlib.Numerals.{add-one}
use Rattle.std.specs.Prelude.{Option, Some, None, Ok}
use Rattle.std.specs.List.{list_any}
use Rattle.text.specs.Lines.{fields, trim, field_from, FieldAt}
use Rattle.text.proofs.Bools.{bools}
use Rattle.report.proofs.FieldLaws.{Left, Split, split}
use Rattle.refusal.specs.declared.Kind.TheVariants.{UnknownColumn, ColumnTwice}
use Rattle.element.specs.Table.{elements, index_of, found_index}
use Rattle.report.specs.Report.{columns_from, bad, member}
use Rattle.report.specs.Inner.{NamedIs}

-- How many entries are not 0.
abbrev marked : List ℕ → ℕ
marked [] = zero
marked (b ∷ t) = cond (eqb b 0) (marked t) (suc (marked t))

marked_le : (m : List ℕ) → marked m ≤ length m
marked_le [] = omega arith
marked_le (b ∷ t) = bools (eqb b 0) (λ e. rw e (omega (arith, marked_le t))) (λ e. rw e (omega (arith, marked_le t)))

marked_set : (m : List ℕ) (i : ℕ) → i < length m → get_or m i 0 ≡ 0 → marked (set m i 1) ≡ suc (marked m)
marked_set [] i h e = absurd (omega arith)
marked_set (b ∷ t) zero h e = rw (eq-eqb _ _ e)
marked_set (b ∷ t) (suc i) h e =
    let ih = marked_set t i (omega arith) e in
    bools (eqb b 0) (λ q. rw (q, ih)) (λ q. rw (q, ih))

member_snoc : (x e : ℕ) (cs : List ℕ) → member x (cs ++ (e ∷ [])) ≡ false → (member x cs ≡ false) × (e ≡ x → ⊥)
member_snoc x e [] h = (refl, λ q. true≢false (rw (eq-eqb e x q) at h))
member_snoc x e (c ∷ cs) h =
    bools (eqb c x) (λ q. absurd (true≢false (rw q at h))) (λ q. let i = member_snoc x e cs (rw q at h) in (rw q i.0, i.1))

-- The loop: the columns so far, and the fields that are left; an element that the columns leave free has no mark, so that there is room for one
-- column more.
pub record Naming (l columns : List ℕ) (parts a k : ℕ) : Type 0 where
  pub long : length columns ≡ k
  pub marks : List ℕ
  pub wide : length marks ≡ elements
  pub full : marked marks ≡ k
  pub free : (e : ℕ) → e < elements → member e columns ≡ false → get_or marks e 0 ≡ 0
  pub left : List (List ℕ)
  pub count : k + length left ≡ parts
  pub lies : Left l a left
  pub rest : columns_from [] (fields l) ≡ columns_from columns left

-- An index that is found, and one that is not.
found_none : (n : ℕ) → found_index n ≡ None → elements ≤ n
found_none n e = bools (ltb n elements) (λ q. let z : ◌≡◌ {A = Option ℕ} (Some n) None = rw q at e in cc) (λ q. ltb-false n elements q)

found_some : (n i : ℕ) → found_index n ≡ Some i → (n ≡ i) × (i < elements)
found_some n i e =
    bools (ltb n elements)
    (λ q.
    let z : ◌≡◌ {A = Option ℕ} (Some n) (Some i) = rw q at e in
    let w : n ≡ i = cc in
    (w, rw (← w) (ltb-true n elements q)))
    (λ q. let z : ◌≡◌ {A = Option ℕ} None (Some i) = rw q at e in cc)

pub name_named : {l columns : List ℕ} {parts a k : ℕ} → Naming l columns parts a k → parts ≤ k → NamedIs l (Ok columns)
unfolding columns_from
name_named s e =
    let none : s.left ≡ [] = empty s.left (omega (arith, s.count)) in
    record { case = s.rest ∙ rw none }
  where
    empty : (fs : List (List ℕ)) → length fs ≡ 0 → fs ≡ []
    empty [] h = refl
    empty (f ∷ fs) h = absurd (omega arith)

module _ {l columns : List ℕ} {parts a k start size till : ℕ} (s : Naming l columns parts a k) (b : k < parts)
    (f : FieldAt l a start size till)
    {r : Option ℕ} (ie : r ≡ found_index (index_of (take (start + size - start) (drop start l)))) where
  lies : (a ≤ length l) × (s.left ≡ fields (drop a l))
  lies = s.lies (omega (arith, s.count))

  parted : Split l a till (fields (drop a l))
  parted = split f lies.0

  left_is : s.left ≡ field_from l a ∷ parted.others
  left_is = lies.1 ∙ parted.is

  name_is : r ≡ found_index (index_of (trim (field_from l a)))
  name_is = let c : start + size - start ≡ size = omega arith in ie ∙ rw (c, f.value)

  pub name_unknown : r ≡ None → columns_from [] (fields l) ≡ bad UnknownColumn (k + 1)
  unfolding columns_from
  name_unknown e =
      s.rest ∙ rw (left_is, le-ltb (index_of (trim (field_from l a))) elements (found_none _ (sym name_is ∙ e)), s.long, add-one)

  module _ {i : ℕ} (e : r ≡ Some i) where
    is : index_of (trim (field_from l a)) ≡ i
    is = (found_some _ i (sym name_is ∙ e)).0

    h : i < elements
    h = (found_some _ i (sym name_is ∙ e)).1

    pub name_twice : true ≡ member i columns → columns_from [] (fields l) ≡ bad ColumnTwice (k + 1)
    unfolding columns_from
    name_twice m = s.rest ∙ rw (left_is, is, lt-ltb _ _ h, ← m, s.long, add-one)

    module _ (m : false ≡ member i columns) where
      gone : marked (set s.marks i 1) ≡ suc k
      gone = marked_set s.marks i (omega (arith, s.wide, h)) (s.free i h (sym m)) ∙ ap suc s.full

      pub name_room : (length columns < elements) × (i < elements)
      name_room = (omega (arith, gone, s.long, marked_le (set s.marks i 1), length-set s.marks i 1, s.wide), h)

      pub name_on : Naming l (columns ++ (i ∷ [])) parts (till + 1) (k + 1)
      unfolding columns_from
      name_on = record {
        long = length-append columns (i ∷ []) ∙ ap (λ (n : ℕ). n + 1) s.long;
        marks = set s.marks i 1;
        wide = simp length-set s.wide;
        full = rw add-one gone;
        free = λ e b q.
            let p = member_snoc e i columns q in
            get_or-set_other s.marks i e 1 0 (λ z. p.1 (sym z)) ∙ s.free e b p.0;
        left = parted.others;
        count = omega (arith, s.count, ap length left_is);
        lies = parted.after;
        rest = s.rest ∙ (ap (λ (fs : List (List ℕ)). columns_from columns fs) left_is ∙ rw (is, lt-ltb _ _ h, ← m));
      }

pub name_start : (l : List ℕ) {parts : ℕ} → parts ≡ length (fields l) → Naming l [] parts 0 0
name_start l e = record {
  long = refl;
  marks = replicate elements 0;
  wide = refl;
  full = refl;
  free = λ e b q. zeros elements e;
  left = fields l;
  count = omega (arith, e);
  lies = λ h. (omega arith, refl);
  rest = refl;
}
  where
    zeros : (n e : ℕ) → ◌≡◌ {A = ℕ} (get_or (replicate n 0) e 0) 0
    zeros zero e = refl
    zeros (suc n) zero = refl
    zeros (suc n) (suc e) = zeros n e

-- The search among the columns.
pub member_is : (e : ℕ) (columns : List ℕ) → list_any (λ c. eqb c e) columns ≡ member e columns
member_is e [] = refl
member_is e (c ∷ cs) = ap (λ (b : Bool). eqb c e || b) (member_is e cs)
