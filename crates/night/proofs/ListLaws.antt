-- Laws of the search for the first bad record, one by one.
use Prim.Native.Nat.{ℕ, zero, suc, ◌+◌, ◌-◌, ◌*◌, ◌≤◌, ◌<◌, min}
use mathlib.Core.Path.{◌≡◌, refl, sym, ap, ◌∙◌}
use mathlib.Core.Bool.{true, false}
use mathlib.Core.List.{List, [], ◌∷◌, ◌++◌}
use native.Mathlib.Omega.{arith}
use native.Mathlib.Numerals.{add-one}
use lib.ListN.{length, take, drop, length-drop}
use Rattle.std.proofs.lemmas.List.{drop-drop}
use Rattle.std.specs.Prelude.{Some, None}
use Rattle.text.specs.Numbered.{numbered}
use Rattle.night.specs.Record.{is_record}
use Rattle.night.specs.List.{record_size, record_at, record_count, bad_from, first_bad}

-- The front of a text, as long as a size lets it be, is the text's first so many, and the rest is what they leave.
front_is : (size : ℕ) (front rest : List ℕ) → length front ≡ min size (length (front ++ rest))
    → (take size (front ++ rest) ≡ front) × (drop size (front ++ rest) ≡ rest)
front_is zero [] rest h = (refl, refl)
front_is zero (b ∷ front) rest h = absurd (omega arith)
front_is (suc size) [] [] h = (refl, refl)
front_is (suc size) [] (b ∷ rest) h = absurd (omega arith)
front_is (suc size) (b ∷ front) rest h =
    let parts = front_is size front rest (omega arith) in
    (ap (λ (l : List ℕ). b ∷ l) parts.0, parts.1)

-- The search has seen so many records, all right.
pub record Looking (list : List ℕ) (seen : ℕ) : Type 0 where
  pub few : seen ≤ record_count list
  pub left : first_bad list ≡ bad_from (record_count list - seen) (seen + 1) list

module _ (list : List ℕ) (n : ℕ) where
  pub look_start : n ≡ 0 → Looking list n
  unfolding first_bad
  look_start none =
      let all : record_count list - 0 ≡ record_count list = omega arith in
      rw none (record { few = omega arith; left = rw all refl })

  module _ (k : Looking list n) (rest : List ℕ) (is : rest ≡ drop (n * record_size) list) where
    here : length rest ≡ length list - n * record_size
    here = ap length is ∙ length-drop (n * record_size) list

    -- There is nothing left to look at.
    pub look_end : length rest ≡ 0 → None ≡ numbered (first_bad list)
    unfolding bad_from
    look_end none =
        let e : record_count list - n ≡ 0 = omega (arith, here, k.few) in
        rw (k.left, e) refl

    -- A record comes off the rest.
    module _ (front rest' : List ℕ) (parts : rest ≡ front ++ rest') (long : length front ≡ min record_size (length rest)) (some : 0 < length rest) where
      whole : (take record_size rest ≡ front) × (drop record_size rest ≡ rest')
      whole = rw parts (front_is record_size front rest' (long ∙ ap (λ (l : List ℕ). min record_size (length l)) parts))

      front_at : front ≡ record_at (n + 1) list
      front_at =
          let place : n * record_size ≡ (n + 1 - 1) * record_size = omega arith in
          sym whole.0 ∙ ap (take record_size) (is ∙ ap (λ (p : ℕ). drop p list) place)

      pub rest_is : rest' ≡ drop ((n + 1) * record_size) list
      rest_is = sym whole.1 ∙ ap (drop record_size) is ∙ drop-drop _ _ list ∙ ap (λ (p : ℕ). drop p list) next
        where
          next : n * record_size + record_size ≡ (n + 1) * record_size
          next = omega arith

      again : record_count list - n ≡ suc (record_count list - (n + 1))
      again = omega (arith, here)

      -- The record is right, and the search goes on.
      pub look_on : is_record (n + 1) front ≡ true → Looking list (n + 1)
      unfolding bad_from
      look_on right =
          let right' : is_record (n + 1) (record_at (n + 1) list) ≡ true = rw front_at at right in
          record { few = omega (arith, here); left = k.left ∙ rw (again, right', add-one (n + 1)) refl }

      -- The record is bad.
      pub look_bad : is_record (n + 1) front ≡ false → Some (n + 1) ≡ numbered (first_bad list)
      unfolding bad_from
      look_bad bad =
          let bad' : is_record (n + 1) (record_at (n + 1) list) ≡ false = rw front_at at bad in
          let found : first_bad list ≡ n + 1 = k.left ∙ rw (again, bad') refl in
          rw (found, add-one n) refl
