-- Laws of a line's bytes, its fields by position, and the columns that hold for it.
use Prim.Native.Nat.{ℕ, zero, suc, ◌+◌, ◌-◌, ◌≤◌, ◌<◌, min}
use mathlib.Core.Path.{◌≡◌, refl, ap, sym, ◌∙◌}
use mathlib.Core.Bool.{true, false}
use mathlib.Core.List.{List, [], ◌∷◌}
use native.Mathlib.Nat.{add-zero}
use native.Mathlib.Numerals.{add-one}
use native.Mathlib.Omega.{arith}
use lib.Dec.{eqb, ltb}
use lib.ListN.{length, take, drop, get_or, drop_of_length-le, length-drop}
use lib.Seq.{drop-cons, drop-drop, get_or-drop}
use borrow.Author.Tests.{eq-eqb, ne_eqb, ltb-true}
use Rattle.std.specs.Prelude.{Some, unwrap_or}
use Rattle.text.specs.Lines.{up_to, fields, into, trim, field_from, FieldAt}
use Rattle.text.specs.Numbered.{numbered}
use Rattle.text.proofs.Bools.{bools, never}
use Rattle.text.proofs.LineLaws.{fields_more, fields_first}
use Rattle.element.specs.Table.{element_number}
use Rattle.inspect.specs.Part.{after_mark, part_start, marks_in}
use Rattle.inspect.specs.Line.{field_index, field_of, field_start, FieldIs, element_at, column_from, column_of, is_present, present_from, first_present, columns_before}

-- Fields.

-- There is a field more than there are bars.
pub fields_count : (s : List ℕ) → length (fields s) ≡ suc (marks_in 124 s)
unfolding marks_in
fields_count [] = refl
fields_count (b ∷ t) =
    let same : length (into b (fields t)) ≡ length (fields t) = rw (fields_first t).1 in
    bools (eqb b 124) (λ e. rw e (omega (arith, fields_count t))) (λ e. rw e (omega (arith, fields_count t)))

-- A text with a mark has a first one, after which there is one mark less.
marked : (mark : ℕ) (s : List ℕ) → 0 < marks_in mark s → up_to mark s < length s
unfolding marks_in
marked mark [] h = absurd (omega arith)
marked mark (b ∷ t) h =
    bools (eqb b mark) (λ e. rw e (omega arith)) (λ e. let k : 0 < marks_in mark t = omega (arith, rw e at h) in rw e (omega (arith, marked mark t k)))

marks_more : (mark : ℕ) (s : List ℕ) → up_to mark s < length s → marks_in mark s ≡ suc (marks_in mark (drop (suc (up_to mark s)) s))
unfolding marks_in
marks_more mark [] h = absurd (omega arith)
marks_more mark (b ∷ t) h =
    bools (eqb b mark) (λ e. rw e (omega arith))
    (λ e. let k : up_to mark t < length t = omega (arith, rw e at h) in rw e (omega (arith, marks_more mark t k)))

-- The fields from an index on are those of the text from the start of that part on.
pub record FieldsFrom (s : List ℕ) (k : ℕ) : Type 0 where
  pub are : drop k (fields s) ≡ fields (drop (part_start s k 124) s)
  pub bars : marks_in 124 s ≡ k + marks_in 124 (drop (part_start s k 124) s)

-- The next part starts after the mark.
next_start : (s : List ℕ) (k : ℕ) → up_to 124 (drop (part_start s k 124) s) < length (drop (part_start s k 124) s)
    → part_start s (suc k) 124 ≡ part_start s k 124 + suc (up_to 124 (drop (part_start s k 124) s))
unfolding part_start after_mark
next_start s k u = omega (arith, length-drop (part_start s k 124) s)

from_more : (s : List ℕ) (k : ℕ) → FieldsFrom s k → suc k ≤ marks_in 124 s → FieldsFrom s (suc k)
from_more s k f h =
    let a : ℕ = part_start s k 124 in
    let d : List ℕ = drop a s in
    let u : up_to 124 d < length d = marked 124 d (omega (arith, f.bars)) in
    let n : part_start s (suc k) 124 ≡ a + suc (up_to 124 d) = next_start s k u in
    let r : drop (suc (up_to 124 d)) d ≡ drop (part_start s (suc k) 124) s = drop-drop (suc (up_to 124 d)) a s ∙ ap (λ (x : ℕ). drop x s) (sym n) in
    let one : k + 1 ≡ suc k = add-one k in
    let more : drop 1 (fields d) ≡ fields (drop (suc (up_to 124 d)) d) = rw (fields_more d u) in
    record {
      are = ap (λ (x : ℕ). drop x (fields s)) (sym one) ∙ sym (drop-drop 1 k (fields s)) ∙ ap (λ (x : List (List ℕ)). drop 1 x) f.are ∙ more ∙ ap fields r;
      bars = omega (arith, f.bars, marks_more 124 d u, ap (λ (x : List ℕ). marks_in 124 x) r);
    }

fields_from_lem : (s : List ℕ) (k : ℕ) → k ≤ marks_in 124 s → FieldsFrom s k
unfolding part_start
fields_from_lem s zero h = record { are = refl; bars = omega arith }
fields_from_lem s (suc k) h = from_more s k (fields_from_lem s k (omega arith)) h

-- A field is the part from its start on.
field_from_lem : (s : List ℕ) (k : ℕ) → k ≤ marks_in 124 s → field_from s (part_start s k 124) ≡ get_or (fields s) k []
field_from_lem s k h =
    let d : List ℕ = drop (part_start s k 124) s in
    let f = fields_first d in
    let g : get_or (drop k (fields s)) 0 [] ≡ take (up_to 124 d) d = ap (λ (x : List (List ℕ)). get_or x 0 []) ((fields_from_lem s k h).are ∙ f.1) in
    sym (sym (get_or-drop k (fields s) 0 [] ∙ ap (λ (x : ℕ). get_or (fields s) x []) (add-zero k)) ∙ g)

-- The field that is found is the one at the position.
pub field_is : (line : List ℕ) (position last index from : ℕ) {start size till : ℕ} → last ≡ marks_in 124 line → index ≡ min (position - 1) last
    → from ≡ part_start line index 124 → FieldAt line from start size till → FieldIs line position start size till
unfolding field_index field_of field_start
field_is line position last index from l i e f =
    let k : index ≡ field_index line position = omega (arith, fields_count line) in
    let w : field_index line position ≤ marks_in 124 line = omega (arith, fields_count line) in
    let p : from ≡ field_start line position = e ∙ ap (λ (x : ℕ). part_start line x 124) k in
    let g = rw p at f in
    record { place = g; value = g.value ∙ ap trim (field_from_lem line (field_index line position) w) }

-- The value of a field is as long as the answer says.
pub field_size : {line : List ℕ} {position start size till : ℕ} → FieldIs line position start size till → size ≡ length (trim (field_of line position))
unfolding field_index field_of field_start
field_size {line} {position} f =
    f.place.size_is ∙ ap (λ (x : List ℕ). length (trim x)) (field_from_lem line (field_index line position) (omega (arith, fields_count line)))

-- Numbers counted from 1.

pub numbered_some : (n m : ℕ) → 0 < n → n ≡ m → Some n ≡ numbered m
numbered_some zero m h e = absurd (omega arith)
numbered_some (suc n) m h e = ap numbered e

pub number_back : (n : ℕ) → unwrap_or (numbered n) 0 ≡ n
number_back zero = refl
number_back (suc n) = refl

-- Columns.

pub column_start : (columns : List ℕ) (element : ℕ) → column_of columns element ≡ column_from (0 + 1) (drop 0 (fields columns)) element
unfolding column_of
column_start columns element = refl

module _ (columns : List ℕ) (element k : ℕ) (inv : column_of columns element ≡ column_from (k + 1) (drop k (fields columns)) element) where
  pub column_end : (bars : ℕ) → bars ≡ marks_in 124 columns → bars < k → 0 ≡ column_of columns element
  unfolding column_from
  column_end bars b h = sym (inv ∙ rw (drop_of_length-le (fields columns) {i = k} (omega (arith, fields_count columns))))

  module _ (bars : ℕ) (b : bars ≡ marks_in 124 columns) (h : k ≤ bars) (n : ℕ) (e : n ≡ element_at columns (k + 1)) where
    left : drop k (fields columns) ≡ get_or (fields columns) k [] ∷ drop (suc k) (fields columns)
    left = drop-cons (fields columns) k [] (omega (arith, fields_count columns))

    named : n ≡ element_number (trim (get_or (fields columns) k []))
    unfolding element_at field_of field_index
    named = e ∙ ap (λ (x : ℕ). element_number (trim (get_or (fields columns) x []))) (omega (arith, fields_count columns))

    pub column_here : n ≡ element → k + 1 ≡ column_of columns element
    unfolding column_from
    column_here q = sym (inv ∙ rw (left, ← named, eq-eqb n element q))

    pub column_on : (n ≡ element → ⊥) → column_of columns element ≡ column_from (k + 1 + 1) (drop (k + 1) (fields columns)) element
    unfolding column_from
    column_on q = inv ∙ rw (left, ← named, ne_eqb n element q, add-one k)

-- Elements that are present.

-- An element that is present has a number.
pub present_above : (line columns : List ℕ) (element : ℕ) → is_present line columns element ≡ true → 0 < element
unfolding is_present
present_above line columns element e = bools (ltb 0 element) (λ t. ltb-true 0 element t) (λ t. never (rw t at e))

module _ (line columns : List ℕ) (first last end element : ℕ)
    (inv : first_present line columns first last ≡ present_from (end + 1 - element) element line columns) where
  module _ (h : element ≤ end) where
    pub present_here : is_present line columns element ≡ true → element ≡ first_present line columns first last
    unfolding present_from
    present_here e = let q : end + 1 - element ≡ suc (end - element) = omega arith in sym (inv ∙ rw (q, e))

    pub present_on : is_present line columns element ≡ false
        → first_present line columns first last ≡ present_from (end + 1 - (element + 1)) (element + 1) line columns
    unfolding present_from
    present_on e =
        let q : end + 1 - element ≡ suc (end - element) = omega arith in
        let p : end + 1 - (element + 1) ≡ end - element = omega arith in
        inv ∙ rw (q, e, p)

-- The columns that hold for a line.
pub record ColumnsAt (text : List ℕ) (k from columns : ℕ) : Type 0 where
  pub start : from ≡ part_start text k 10
  pub before : columns ≡ columns_before text k
