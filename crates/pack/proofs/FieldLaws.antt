-- Laws of the fields of a line, written one after the other, each with the byte after it.
use Prim.Native.Nat.{ℕ, zero, suc, ◌+◌, ◌-◌, ◌≤◌, ◌<◌}
use mathlib.Core.Path.{◌≡◌, refl, sym, ◌∙◌}
use mathlib.Core.List.{List, [], ◌∷◌, ◌++◌, append_assoc, append-nil, map}
use native.Mathlib.Numerals.{add-one}
use native.Mathlib.Omega.{arith}
use lib.ListN.{length, take, drop, get_or, length-append, length-take, length-drop, length-map, drop_of_length-le}
use lib.Seq.{drop-cons}
use borrow.Author.Tests.{lt-ltb, le-ltb}
use Rattle.layout.specs.Written.{barred, line_of}
use Rattle.pack.specs.Inner.{Wrote, end_of, field_text}
use Rattle.pack.proofs.WritingLaws.{Writing, write_begin, write_room, write_end}

-- The line of the fields that are left, nothing after the last.
abbrev pub line_left : List (List ℕ) → List ℕ
line_left [] = []
line_left (f ∷ fs) = line_of (f ∷ fs)

-- A line has a field.
pub line_left_lem : (fs : List (List ℕ)) → 0 < length fs → line_left fs ≡ line_of fs
line_left_lem [] h = absurd (omega arith)
line_left_lem (f ∷ fs) h = refl

-- The last field, and one that others follow.
last_field : (f : List ℕ) (k n : ℕ) → n ≡ suc k → line_of (f ∷ []) ≡ field_text f (end_of (suc k) n)
unfolding line_of barred
last_field f k n e = rw (le-ltb (suc k) n (omega arith))

inner_field : (f g : List ℕ) (fs : List (List ℕ)) (k n : ℕ) → suc k < n → line_of (f ∷ g ∷ fs) ≡ field_text f (end_of (suc k) n) ++ line_of (g ∷ fs)
unfolding line_of barred
inner_field f g fs k n h = rw (lt-ltb (suc k) n h) (simp append_assoc)

-- A field more.
pub line_next : (fs : List (List ℕ)) (k : ℕ) → k < length fs
    → line_left (drop k fs) ≡ field_text (get_or fs k []) (end_of (k + 1) (length fs)) ++ line_left (drop (k + 1) fs)
line_next fs k h = rw (drop-cons fs k [] h, add-one k) (go (drop (suc k) fs) (length-drop (suc k) fs))
  where
    go : (r : List (List ℕ)) → length r ≡ length fs - suc k
        → line_left (get_or fs k [] ∷ r) ≡ field_text (get_or fs k []) (end_of (suc k) (length fs)) ++ line_left r
    go [] e = last_field (get_or fs k []) k (length fs) (omega arith) ∙ sym (append-nil (field_text (get_or fs k []) (end_of (suc k) (length fs))))
    go (g ∷ r) e = inner_field (get_or fs k []) g r k (length fs) (omega arith)

-- What a list is mapped to, at a place.
pub map_at : (f : ℕ → List ℕ) (l : List ℕ) (k : ℕ) → k < length l → get_or (map f l) k [] ≡ f (get_or l k 0)
map_at f [] k h = absurd (omega arith)
map_at f (x ∷ l) zero h = refl
map_at f (x ∷ l) (suc k) h = map_at f l k (omega arith)

-- A line of a field for each column, field by field.
module _ (f : ℕ → List ℕ) (columns : List ℕ) {before : List ℕ} where
  pub line_begin : 0 < length columns → length (line_of (map f columns)) ≤ length before
      → Writing (line_of (map f columns)) before before 0 (line_left (drop 0 (map f columns)))
  line_begin some h = rw (line_left_lem (map f columns) (omega (arith, length-map columns f))) (write_begin (line_of (map f columns)) before h)

  pub line_turn : {after : List ℕ} {at k end : ℕ} → k < length columns → end ≡ end_of (k + 1) (length columns)
      → Writing (line_of (map f columns)) before after at (line_left (drop k (map f columns)))
      → Writing (line_of (map f columns)) before after at (field_text (f (get_or columns k 0)) end ++ line_left (drop (k + 1) (map f columns)))
  line_turn {k = k} h e w =
      rw (e, ← length-map columns f, ← map_at f columns k h, ← line_next (map f columns) k (omega (arith, length-map columns f))) w

  -- There is room for the next field and the byte after it, in the rest of the output, which is lent.
  pub line_room : {after : List ℕ} {at k : ℕ} → k < length columns → Writing (line_of (map f columns)) before after at (line_left (drop k (map f columns)))
      → at + length (f (get_or columns k 0)) < length after
  line_room {k = k} h w =
      omega (arith, write_room (field_text (f (get_or columns k 0)) _) _ (line_turn h refl w), length-append (f (get_or columns k 0)) (end_of (k + 1) (length columns) ∷ []))

  pub line_fits : {after : List ℕ} {at k : ℕ} → k < length columns → Writing (line_of (map f columns)) before after at (line_left (drop k (map f columns)))
      → length (f (get_or columns k 0)) < length (take (length after - at) (drop at after))
  line_fits h w = simp (length-take, length-drop) (omega (arith, line_room h w))

  pub line_end : {after : List ℕ} {at k : ℕ} → length columns ≤ k
      → Writing (line_of (map f columns)) before after at (line_left (drop k (map f columns))) → Wrote (line_of (map f columns)) before after at
  line_end {k = k} h w =
      let none : drop k (map f columns) ≡ [] = drop_of_length-le (map f columns) {i = k} (omega (arith, length-map columns f)) in
      write_end (rw none at w)
