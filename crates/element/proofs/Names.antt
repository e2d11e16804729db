-- The names of elements as the code holds them, one after the other, and laws of them: where each lies among all of them, that its index is its
-- place, and what bytes it has.
use Prim.Native.Nat.{ℕ, suc, ◌+◌, ◌-◌, ◌≤◌, ◌<◌}
use mathlib.Core.Path.{◌≡◌, refl, sym, ap, ◌∙◌}
use mathlib.Core.Bool.{Bool, true, false, not, ◌&&◌}
use mathlib.Core.List.{List, [], ◌∷◌, ◌++◌}
use native.Mathlib.Numerals.{add-one}
use lib.Dec.{T, eqb, leb, ltb, eqb→eq, leb→le}
use lib.ListN.{length, get_or, take, drop, length-drop, get_or-eq_default}
use lib.Seq.{drop-cons, get_or-drop}
use native.Mathlib.Omega.{arith}
use borrow.Author.Tests.{ltb-true, ltb-false, lt-ltb, leb-true, eqb-false}
use Rattle.std.specs.Prelude.{Some, None}
use Rattle.text.specs.Numbered.{numbered}
use Rattle.text.specs.Part.{same}
use Rattle.text.proofs.Bools.{T_true, bools}
use Rattle.text.proofs.Parts.{same_is}
use Rattle.text.proofs.Table.{passes, below}
use Rattle.element.specs.Table.{elements, table, names, name_of, index_in, index_of, found_index, element_number}

-- Texts, one after the other.
abbrev pub end_to_end : List (List ℕ) → List ℕ
end_to_end [] = []
end_to_end (text ∷ texts) = text ++ end_to_end texts

-- The names of all elements, one after the other.
abbrev pub all_names : List ℕ
all_names = end_to_end names

-- Where each of these texts starts, the first at a place and each next one where the one before it ends, and where the last one ends.
abbrev pub text_starts : ℕ → List (List ℕ) → List ℕ
text_starts place [] = place ∷ []
text_starts place (text ∷ texts) = place ∷ text_starts (place + length text) texts

-- Where each name starts among all of them, and where the last one ends.
abbrev pub name_starts : List ℕ
name_starts = text_starts 0 names

-- The table has as many rows as there are elements.
pub table_length : length table ≡ elements
table_length = refl

-- The part of all names from where a name starts to where the next one does.
abbrev pub cut : ℕ → List ℕ
cut index = take (get_or name_starts (index + 1) 0 - get_or name_starts index 0) (drop (get_or name_starts index 0) all_names)

-- The part is the name.
cut_test : ℕ → Bool
cut_test index = same (cut index) (name_of index)

-- The part is as long as the name.
size_test : ℕ → Bool
size_test index = eqb (get_or name_starts (index + 1) 0 - get_or name_starts index 0) (length (name_of index))

-- The name does not start after the next one.
order_test : ℕ → Bool
order_test index = leb (get_or name_starts index 0) (get_or name_starts (index + 1) 0)

-- The next name, or the end, lies within all names.
inside_test : ℕ → Bool
inside_test index = leb (get_or name_starts (index + 1) 0) (length all_names)

-- The start is a byte.
start_test : ℕ → Bool
start_test place = ltb (get_or name_starts place 0) 256

-- Every start is a byte.
pub start_small : (place : ℕ) → place < elements + 1 → get_or name_starts place 0 < 256
unfolding start_test
start_small place h = ltb-true _ _ (T_true _ (below start_test (elements + 1) tt place h))

-- The part is the name, it is as long as the name, and the starts are in order.
module _ (index : ℕ) (h : index < elements) where
  pub cut_is : cut index ≡ name_of index
  unfolding cut_test same
  cut_is = same_is _ _ (T_true _ (below cut_test elements tt index h))

  pub size_is : get_or name_starts (index + 1) 0 - get_or name_starts index 0 ≡ length (name_of index)
  unfolding size_test
  size_is = eqb→eq _ _ (below size_test elements tt index h)

  pub in_order : get_or name_starts index 0 ≤ get_or name_starts (index + 1) 0
  unfolding order_test
  in_order = leb→le _ _ (below order_test elements tt index h)

  pub in_all : get_or name_starts (index + 1) 0 ≤ length all_names
  unfolding inside_test
  in_all = leb→le _ _ (below inside_test elements tt index h)

-- One name more in a search.
module _ (all : List (List ℕ)) (name : List ℕ) (i : ℕ) (h : i < length all) where
  pub index_yes : same name (get_or all i []) ≡ true → index_in (drop i all) name ≡ 0
  unfolding index_in
  index_yes e = rw (drop-cons all i [] h, e)

  pub index_no : same name (get_or all i []) ≡ false → index_in (drop i all) name ≡ suc (index_in (drop (i + 1) all) name)
  unfolding index_in
  index_no e = rw (drop-cons all i [] h, e, add-one)

-- The name is found at its place.
index_test : ℕ → Bool
index_test index = eqb (index_of (name_of index)) index

-- The index of each name is its place.
pub index_name : (index : ℕ) → index < elements → index_of (name_of index) ≡ index
unfolding index_test index_of index_in same
index_name index h = eqb→eq _ _ (below index_test elements tt index h)

-- Where a search finds a name, that name stands.
pub found : (all : List (List ℕ)) (name : List ℕ) → index_in all name < length all → same name (get_or all (index_in all name) []) ≡ true
unfolding index_in
found [] name h = absurd (omega arith)
found (first ∷ rest) name h = bools (same name first) (λ e. rw e e) (λ e. rw e (found rest name (omega (arith, rw e at h))))

-- What a search from an index on finds is the index of the name: no name stands twice.
pub index_later : (name : List ℕ) (from : ℕ) → from + index_in (drop from names) name < elements → from + index_in (drop from names) name ≡ index_of name
index_later name from h =
    let place = index_in (drop from names) name in
    let inside : place < length (drop from names) = omega (arith, h, length-drop from names) in
    let stands : same name (name_of (from + place)) ≡ true = rw (← get_or-drop from names place []) (found (drop from names) name inside) in
    sym (ap index_of (same_is name _ stands) ∙ index_name (from + place) h)

-- An index below the number of elements is found.
pub found_at : (index n : ℕ) → index < elements → n ≡ index → Some index ≡ found_index n
found_at index n h e = rw (e, lt-ltb index elements h)

-- What is found from an index on is the index of the name, and so is what is found from the first one on.
pub found_later : (name : List ℕ) (from index : ℕ) → Some index ≡ found_index (from + index_in (drop from names) name) → Some index ≡ found_index (index_of name)
found_later name from index e =
    let n = from + index_in (drop from names) name in
    bools (ltb n elements) (λ t. rw (← index_later name from (ltb-true n elements t)) e) (λ t. let none = rw t at e in cc)

pub found_first : (name : List ℕ) → found_index (0 + index_in (drop 0 names) name) ≡ found_index (index_of name)
unfolding index_of
found_first name = ap found_index (omega arith)

-- The number of a name is one more than its index.
pub number_some : (name : List ℕ) (index : ℕ) → Some index ≡ found_index (index_of name) → Some (index + 1) ≡ numbered (element_number name)
unfolding element_number
number_some name index e =
    bools (ltb (index_of name) elements)
    (λ t. let same = rw t at e in rw (t, add-one) (let i : index ≡ index_of name = cc in rw (i, add-one)))
    (λ t. let none = rw t at e in cc)

pub number_none : (name : List ℕ) → None ≡ found_index (index_of name) → None ≡ numbered (element_number name)
unfolding element_number
number_none name e = bools (ltb (index_of name) elements) (λ t. let some = rw t at e in cc) (λ t. rw t)

-- What a test finds of every name holds of each.
pub every_name : (test : List ℕ → Bool) → T (passes (λ index. test (name_of index)) elements) → (index : ℕ) → index < elements → test (name_of index) ≡ true
every_name test t index h = T_true _ (below (λ index. test (name_of index)) elements t index h)

-- Every byte of a text passes a test.
abbrev pub every : (ℕ → Bool) → List ℕ → Bool
every test [] = true
every test (byte ∷ text) = test byte && every test text

-- A byte from 0x21 to 0x7E that is no `|`.
abbrev pub is_name_byte : ℕ → Bool
is_name_byte byte = leb 33 byte && leb byte 126 && not (eqb byte 124)

-- A test whose negation is true is false.
unless : (t : Bool) → not t ≡ true → t ≡ false
unless true e = sym e
unless false e = refl

-- No name is empty, begins with `#`, or holds a blank, a `|` or a byte outside 0x20 to 0x7E.
module _ (index : ℕ) (h : index < elements) where
  pub name_present : 0 < length (name_of index)
  name_present = ltb-true 0 _ (every_name (λ name. ltb 0 (length name)) tt index h)

  pub name_unhashed : get_or (name_of index) 0 0 ≡ 35 → ⊥
  name_unhashed = eqb-false _ 35 (unless _ (every_name (λ name. not (eqb (get_or name 0 0) 35)) tt index h))

  pub name_bytes_lem : every is_name_byte (name_of index) ≡ true
  name_bytes_lem = every_name (every is_name_byte) tt index h

-- The bytes of the longest name.
abbrev pub longest : ℕ
longest = 10

-- No name has more.
pub name_short : (index : ℕ) → length (name_of index) ≤ longest
name_short index =
    bools (ltb index elements)
    (λ t. leb-true _ longest (every_name (λ name. leb (length name) longest) tt index (ltb-true index elements t)))
    (λ t. rw (get_or-eq_default names [] {n = index} (ltb-false index elements t)) (omega arith))
