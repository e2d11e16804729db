-- Laws of a line's fields, taken one after the other.
use Prim.Native.Nat.{ℕ, suc, ◌≤◌, ◌<◌, ◌+◌}
use mathlib.Core.Path.{◌≡◌, refl, ◌∙◌}
use mathlib.Core.List.{List, [], ◌∷◌}
use lib.Dec.{ltb}
use lib.ListN.{length, drop, length-drop, length-take}
use lib.Seq.{drop-drop}
use borrow.Author.Tests.{ltb-true, ltb-false}
use native.Mathlib.Omega.{arith}
use Rattle.text.specs.Lines.{up_to, fields, field_from, FieldAt}
use Rattle.text.proofs.Bools.{bools}
use Rattle.text.proofs.LineLaws.{up_to_le, fields_more, fields_last}

-- What is left of a line's fields: where any is left, they are those from a place on.
abbrev pub Left : List ℕ → ℕ → List (List ℕ) → Type 0
Left l a left = 0 < length left → (a ≤ length l) × (left ≡ fields (drop a l))

-- The fields from a place on: the first, which ends at another place, and the others.
pub record Split (l : List ℕ) (a till : ℕ) (left : List (List ℕ)) : Type 0 where
  pub others : List (List ℕ)
  pub is : left ≡ field_from l a ∷ others
  pub after : Left l (till + 1) others
  pub wide : a + length (field_from l a) ≡ till

pub split : {l : List ℕ} {a start size till : ℕ} → FieldAt l a start size till → a ≤ length l → Split l a till (fields (drop a l))
split {l} {a} {start} {size} {till} f h =
    bools (ltb (up_to 124 (drop a l)) (length (drop a l)))
    (λ q.
    let u = ltb-true (up_to 124 (drop a l)) (length (drop a l)) q in
    let d : a + suc (up_to 124 (drop a l)) ≡ till + 1 = omega (arith, f.till_is) in
    record {
      others = fields (drop (till + 1) l);
      is = fields_more (drop a l) u ∙ rw (drop-drop, d);
      after = λ z. (omega (arith, u, f.till_is, length-drop a l), refl);
      wide = wide;
    })
    (λ q.
    let u : up_to 124 (drop a l) ≡ length (drop a l) = omega (arith, up_to_le 124 (drop a l), ltb-false (up_to 124 (drop a l)) (length (drop a l)) q) in
    record { others = []; is = fields_last (drop a l) u; after = λ z. absurd (omega arith); wide = wide })
  where
    wide : a + length (field_from l a) ≡ till
    wide = omega (arith, f.till_is, length-take (up_to 124 (drop a l)) (drop a l), up_to_le 124 (drop a l))
