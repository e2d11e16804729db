-- Laws of lines, fields and blanks: one for each step and each end of a loop, and those that the crates above cite.
use Prim.Native.Nat.{ℕ, zero, suc, ◌≤◌, ◌<◌, ◌+◌, ◌-◌}
use mathlib.Core.Path.{◌≡◌, refl, ap, sym, ◌∙◌}
use mathlib.Core.List.{List, [], ◌∷◌, ◌++◌}
use mathlib.Core.Bool.{Bool, true, false, cond, not, ◌&&◌}
use lib.ListN.{length, take, drop, get_or, drop_of_length-le, length-drop, length-take, take-append-drop}
use lib.Dec.{eqb, leb}
use Rattle.std.proofs.Common.{get_or-drop}
use lib.Seq.{take_all, take-nil, take-take, drop-drop, drop-cons, take-suc, take-length}
use borrow.Author.Tests.{eq-eqb, ne_eqb, eqb-false, leb-true, le-leb}
use native.Mathlib.Numerals.{add-one}
use native.Mathlib.Omega.{arith}
use native.Mathlib.Nat.{add-zero, sub-zero, zero-sub, suc-sub-suc}
use Rattle.text.proofs.Bools.{bools, both, neither}
use Rattle.text.specs.Lines.{is_printable, printable, up_to, first_line, cut, line, lines, fields, into, leading_blanks, drop_lead, before, drop_trail, trim, field_from, TrimmedIs, FieldAt}
use Rattle.text.specs.Steps.{bars_in, holds, is_tight, Scanning}

pub up_to_le : (m : ℕ) (s : List ℕ) → up_to m s ≤ length s
up_to_le m [] = omega arith
up_to_le m (b ∷ t) = bools (eqb b m) (λ e. rw e (omega arith)) (λ e. rw e (omega (arith, up_to_le m t)))

-- Lines.

pub first_line_lem : (s : List ℕ) → take (up_to 10 s) s ≡ first_line s
first_line_lem [] = refl
first_line_lem (b ∷ t) = bools (eqb b 10) (λ e. rw e) (λ e. rw (e, first_line_lem t))

-- A text with an LF is its first line, and the text after that LF.
pub lines_line : (s : List ℕ) → up_to 10 s < length s → lines s ≡ line (first_line s) (lines (drop (suc (up_to 10 s)) s))
lines_line [] h = absurd (omega arith)
lines_line (b ∷ t) h = bools (eqb b 10) (λ e. rw e) (λ e. rw (e, lines_line t (omega (arith, rw e at h))))

-- Without an LF it is cut off.
pub lines_cut : (b : ℕ) (t : List ℕ) → up_to 10 (b ∷ t) ≡ length (b ∷ t) → lines (b ∷ t) ≡ cut (b ∷ t)
lines_cut b [] h = bools (eqb b 10) (λ e. absurd (omega (arith, rw e at h))) (λ e. rw e)
lines_cut b (x ∷ t) h = bools (eqb b 10) (λ e. absurd (omega (arith, rw e at h))) (λ e. rw (e, lines_cut x t (omega (arith, rw e at h))))

module _ (m : ℕ) (s : List ℕ) (i : ℕ) (inv : up_to m s ≡ i + up_to m (drop i s)) where
  pub up_to_on : i < length s → (get_or s i 0 ≡ m → ⊥) → up_to m s ≡ (i + 1) + up_to m (drop (i + 1) s)
  up_to_on h n =
      let e : up_to m (drop i s) ≡ suc (up_to m (drop (i + 1) s)) = rw (add-one, drop-cons s i 0, ne_eqb _ _ n) in omega arith

-- Fields.

-- A line's fields: up to the first bar, and those after it.
pub fields_more : (s : List ℕ) → up_to 124 s < length s → fields s ≡ take (up_to 124 s) s ∷ fields (drop (suc (up_to 124 s)) s)
fields_more [] h = absurd (omega arith)
fields_more (b ∷ t) h = bools (eqb b 124) (λ e. rw e) (λ e. rw (e, fields_more t (omega (arith, rw e at h))))

pub fields_last : (s : List ℕ) → up_to 124 s ≡ length s → fields s ≡ take (up_to 124 s) s ∷ []
fields_last [] h = refl
fields_last (b ∷ t) h =
    bools (eqb b 124) (λ e. absurd (omega (arith, rw e at h))) (λ e. rw (e, fields_last t (omega (arith, rw e at h))))

-- There is a first field, up to the first bar.
pub fields_first : (s : List ℕ) → (r : List (List ℕ)) × (fields s ≡ take (up_to 124 s) s ∷ r)
fields_first [] = ([], refl)
fields_first (b ∷ t) =
    bools (eqb b 124) (λ e. (fields t, rw e)) (λ e. ((fields_first t).0, rw (e, (fields_first t).1)))

into_length : (b : ℕ) (t : List ℕ) → length (into b (fields t)) ≡ length (fields t)
into_length b t = rw (fields_first t).1

-- One pass over the first line.

and_true : (a : Bool) → a && true ≡ a
and_true true = refl
and_true false = refl

and_assoc : (a b c : Bool) → a && (b && c) ≡ (a && b) && c
and_assoc true b c = refl
and_assoc false b c = refl

bar_count : (b : ℕ) (t : List ℕ) → length (fields (b ∷ t)) ≡ cond (eqb b 124) 1 0 + length (fields t)
bar_count b t = bools (eqb b 124) (λ e. rw e (omega arith)) (λ e. rw e (omega (arith, into_length b t)))

-- A byte 0x20 to 0x7B, which neither ends a field nor a line.
abbrev pub is_plain : ℕ → Bool
is_plain b = leb 32 b && leb b 123

-- A plain byte lies between its bounds, and is printable.
plain_bounds : (b : ℕ) → is_plain b ≡ true → (32 ≤ b) × (b ≤ 123)
plain_bounds b e = let h = both (leb 32 b) (leb b 123) e in (leb-true 32 b h.0, leb-true b 123 h.1)

plain_printable : (b : ℕ) → 32 ≤ b → b ≤ 123 → true ≡ is_printable b
plain_printable b low high = rw (le-leb _ _ low, le-leb b 126 (omega arith))

module _ (s : List ℕ) (right : Bool) (parts i : ℕ) (v : Scanning s right parts i) where
  pub scan_on : i < length s → (get_or s i 0 ≡ 10 → ⊥) → (p : Bool) → p ≡ is_printable (get_or s i 0) → (n : ℕ) → n ≡ cond (eqb (get_or s i 0) 124) 1 0
      → Scanning s (right && p) (parts + n) (i + 1)
  scan_on h q p e n g =
      let f : first_line (drop i s) ≡ get_or s i 0 ∷ first_line (drop (i + 1) s) = rw (add-one, drop-cons s i 0, ne_eqb _ _ q) in
      let b : n ≤ 1 = rw g (at_most (eqb (get_or s i 0) 124)) in
      let c : length (fields (get_or s i 0 ∷ first_line (drop (i + 1) s))) ≡ n + length (fields (first_line (drop (i + 1) s))) =
      rw g (bar_count (get_or s i 0) (first_line (drop (i + 1) s))) in
      let d = rw f at v.count in
      record {
        within = omega arith;
        few = omega (arith, v.few);
        size = up_to_on 10 s i v.size h q;
        all = rw e (v.all ∙ (ap (λ (l : List ℕ). right && printable l) f ∙ and_assoc right (is_printable (get_or s i 0)) _));
        count = omega (arith, c, d);
      }
    where
      at_most : (b : Bool) → cond b 1 0 ≤ 1
      at_most true = omega arith
      at_most false = omega arith

  pub scan_plain : i < length s → is_plain (get_or s i 0) ≡ true → Scanning s right parts (i + 1)
  scan_plain h e =
      let b = plain_bounds (get_or s i 0) e in
      let next : Scanning s (right && true) (parts + 0) (i + 1) =
      scan_on h (λ q. omega (arith, b.0)) true (plain_printable _ b.0 b.1) 0 (rw (ne_eqb (get_or s i 0) 124 (λ q. omega (arith, b.1)))) in
      let f : Scanning s right (parts + 0) (i + 1) = rw (and_true right) at next in
      rw (add-zero parts) at f

-- Steps of many bytes.

-- Without a bar there is none to count.
pub bars_none : (s : List ℕ) → holds 124 s ≡ false → bars_in s ≡ 0
bars_none [] e = refl
bars_none (b ∷ t) e = let n = neither (eqb b 124) (holds 124 t) e in rw (n.0, bars_none t n.1)

-- A printable byte is no LF.
not_feed : (b : ℕ) → is_printable b ≡ true → eqb b 10 ≡ false
not_feed b e = let low : 32 ≤ b = leb-true 32 b (both (leb 32 b) (leb b 126) e).0 in ne_eqb b 10 (λ q. omega arith)

module _ (r : List ℕ) where
  over_size : (a : List ℕ) → printable a ≡ true → up_to 10 (a ++ r) ≡ length a + up_to 10 r
  over_size [] e = omega arith
  over_size (b ∷ a) e =
      let p = both (is_printable b) (printable a) e in rw (not_feed b p.0, over_size a p.1) (omega arith)

  over_line : (a : List ℕ) → printable a ≡ true → first_line (a ++ r) ≡ a ++ first_line r
  over_line [] e = refl
  over_line (b ∷ a) e = let p = both (is_printable b) (printable a) e in rw (not_feed b p.0, over_line a p.1)

  over_all : (a : List ℕ) → printable a ≡ true → printable (a ++ r) ≡ printable r
  over_all [] e = refl
  over_all (b ∷ a) e = let p = both (is_printable b) (printable a) e in rw (p.0, over_all a p.1)

  over_count : (a : List ℕ) → length (fields (a ++ r)) ≡ bars_in a + length (fields r)
  over_count [] = omega arith
  over_count (b ∷ a) = omega (arith, bar_count b (a ++ r), over_count a)

-- A step over printable bytes up to a place, of which n are bars.
pub scan_over : (s : List ℕ) (parts i till : ℕ) → Scanning s true parts i → i ≤ till → till ≤ length s → printable (take (till - i) (drop i s)) ≡ true
    → (n : ℕ) → (n ≡ bars_in (take (till - i) (drop i s))) × (n ≤ length (take (till - i) (drop i s))) → Scanning s true (parts + n) till
scan_over s parts i till v order h e n (g, few) =
    let a = take (till - i) (drop i s) in
    let r = drop till s in
    let back : i + (till - i) ≡ till = omega arith in
    let after : drop (till - i) (drop i s) ≡ r = drop-drop (till - i) i s ∙ ap (λ (k : ℕ). drop k s) back in
    let d : drop i s ≡ a ++ r = sym (take-append-drop (till - i) (drop i s)) ∙ ap (λ (x : List ℕ). a ++ x) after in
    let size : up_to 10 (drop i s) ≡ length a + up_to 10 r = ap (up_to 10) d ∙ over_size r a e in
    let wide : length a ≡ till - i = omega (arith, length-take (till - i) (drop i s), length-drop i s) in
    let l : first_line (drop i s) ≡ a ++ first_line r = ap first_line d ∙ over_line r a e in
    record {
      within = h;
      few = omega (arith, v.few, wide);
      size = omega (arith, v.size, size, wide);
      all = v.all ∙ ap printable l ∙ over_all (first_line r) a e;
      count = omega (arith, v.count, ap (λ (x : List ℕ). length (fields x)) l, over_count (first_line r) a, g);
    }

-- The byte at i of what stands from f on.
module _ (s : List ℕ) (f i : ℕ) (h : f ≤ length s) (k : i < length (take (length s - f) (drop f s))) where
  pub rest_in : f + i < length s
  rest_in = omega (arith, length-take (length s - f) (drop f s), length-drop f s)

  pub rest_at : get_or (take (length s - f) (drop f s)) i 0 ≡ get_or s (f + i) 0
  rest_at = rw (take_all (length s - f) (drop f s) (omega (arith, length-drop f s)), get_or-drop)

-- A pass over the first line in steps: what is left of the text, and how many fields have begun.
pub record Stepping (s left : List ℕ) (parts : ℕ) : Type 0 where
  pub rest : left ≡ drop (length s - length left) s
  pub passed : Scanning s true parts (length s - length left)

-- A step of w printable bytes, of which n are bars.
pub step_over : (s left step after : List ℕ) (parts w : ℕ) → Stepping s left parts → w ≤ length left → step ≡ take w left → after ≡ drop w left
    → printable step ≡ true → (n : ℕ) → (n ≡ bars_in step) × (n ≤ length step) → Stepping s after (parts + n)
step_over s left step after parts w v h front back e n g =
    let i : ℕ = length s - length left in
    let size : length left ≡ length s - i = ap length v.rest ∙ length-drop i s in
    let till : length s - length after ≡ i + w = omega (arith, ap length back, length-drop w left) in
    let wide : i + w - i ≡ w = omega arith in
    let rest : after ≡ drop (i + w) s = back ∙ ap (drop w) v.rest ∙ drop-drop w i s in
    let part : take (i + w - i) (drop i s) ≡ step = rw (wide, ← v.rest, front) in
    record { rest = rw till rest; passed = rw till (scan_over s parts i (i + w) v.passed (omega arith) (omega arith) (rw part e) n (rw part g)) }

-- Blanks.

pub blanks_le : (s : List ℕ) → leading_blanks s ≤ length s
blanks_le [] = omega arith
blanks_le (b ∷ t) = bools (eqb b 32) (λ e. rw e (omega (arith, blanks_le t))) (λ e. rw e (omega arith))

pub drop_blanks : (s : List ℕ) → drop (leading_blanks s) s ≡ drop_lead s
drop_blanks [] = refl
drop_blanks (b ∷ t) = bools (eqb b 32) (λ e. rw (e, drop_blanks t)) (λ e. rw e)

-- A blank at the end goes, and any other byte stays.
trail_blank : (s : List ℕ) (b : ℕ) → b ≡ 32 → drop_trail (s ++ b ∷ []) ≡ drop_trail s
trail_blank [] b h = rw (eq-eqb _ _ h)
trail_blank (x ∷ t) b h = rw (trail_blank t b h)

trail_other : (s : List ℕ) (b : ℕ) → (b ≡ 32 → ⊥) → drop_trail (s ++ b ∷ []) ≡ s ++ b ∷ []
trail_other [] b n = rw (ne_eqb _ _ n)
trail_other (x ∷ []) b n = rw (trail_other [] b n)
trail_other (x ∷ y ∷ t) b n = rw (trail_other (y ∷ t) b n)

length_of_take : (n : ℕ) (s : List ℕ) → n ≤ length s → length (take n s) ≡ n
length_of_take n s h = omega (arith, length-take n s)

take_last : (s : List ℕ) (e : ℕ) → 0 < e → e ≤ length s → take e s ≡ take (e - 1) s ++ (get_or s (e - 1) 0 ∷ [])
take_last s e p h =
    let q : e ≡ suc (e - 1) = omega arith in ap (λ (k : ℕ). take k s) q ∙ take-suc s (e - 1) 0 (omega arith)

module _ (s : List ℕ) (e : ℕ) (inv : drop_trail s ≡ drop_trail (take e s)) where
  pub trail_on : 0 < e → e ≤ length s → get_or s (e - 1) 0 ≡ 32 → drop_trail s ≡ drop_trail (take (e - 1) s)
  trail_on p h q = inv ∙ rw (take_last s e p h, trail_blank _ _ q)

  trail_bytes : 0 < e → e ≤ length s → (get_or s (e - 1) 0 ≡ 32 → ⊥) → take e s ≡ drop_trail s
  trail_bytes p h n = rw (inv, take_last s e p h, trail_other _ _ n)

  pub trail_here : 0 < e → e ≤ length s → (get_or s (e - 1) 0 ≡ 32 → ⊥) → e ≡ length (drop_trail s)
  trail_here p h n = sym (length_of_take e s h) ∙ ap length (trail_bytes p h n)

-- What is left without trailing blanks is the first bytes of the text, as many as it is long.
before_front : (b : ℕ) (t left : List ℕ) → take (length left) t ≡ left → take (length (before b left)) (b ∷ t) ≡ before b left
before_front b t [] e = bools (eqb b 32) (λ q. rw q) (λ q. rw q)
before_front b t (x ∷ left) e = rw e

trail_front : (s : List ℕ) → take (length (drop_trail s)) s ≡ drop_trail s
trail_front [] = refl
trail_front (b ∷ t) = before_front b t (drop_trail t) (trail_front t)

pub trail_start : (s : List ℕ) → drop_trail s ≡ drop_trail (take (length s) s)
trail_start s = rw take-length

-- Parts.

-- What `&s[a..]` holds.
pub rest_of : (s : List ℕ) (a : ℕ) → a ≤ length s → take (length s - a) (drop a s) ≡ drop a s
rest_of s a h = take_all (length s - a) (drop a s) (omega (arith, length-drop a s))

pub drop_take : (s w : ℕ) (x : List ℕ) → drop s (take w x) ≡ take (w - s) (drop s x)
drop_take zero w x = rw sub-zero
drop_take (suc s) zero x = rw zero-sub
drop_take (suc s) (suc w) [] = rw (suc-sub-suc, take-nil)
drop_take (suc s) (suc w) (b ∷ t) = rw (suc-sub-suc, drop_take s w t)

-- A part of a part.
pub part_of_part : (l : List ℕ) (a w s n : ℕ) → s + n ≤ w → take n (drop s (take w (drop a l))) ≡ take n (drop (a + s) l)
part_of_part l a w s n h =
    let k : n ≤ w - s = omega arith in
    rw (drop_take s w (drop a l), take-take n (w - s) (drop s (drop a l)) k, drop-drop)

pub trim_parts : (s : List ℕ) (a n : ℕ) → (a ≡ leading_blanks s) × (a ≤ length s)
    → (n ≡ length (drop_trail (take (length s - a) (drop a s)))) × (n ≤ length (take (length s - a) (drop a s)))
    → TrimmedIs s a n
trim_parts s a n (l, h) (e, k) =
    let r = rest_of s a h in
    let d : drop a s ≡ drop_lead s = ap (λ (x : ℕ). drop x s) l ∙ drop_blanks s in
    let size : n ≡ length (trim s) = rw (← d) (rw r at e) in
    let m : n ≤ length (drop a s) = rw r at k in
    record {
      start_is = l;
      size_is = size;
      value = rw (size, d) (trail_front (drop_lead s));
      within = omega (arith, m, length-drop a s);
    }

not_true : (b : Bool) → not b ≡ true → b ≡ false
not_true true e = sym e
not_true false e = refl

pub tight_none : (s : List ℕ) → length s ≡ 0 → true ≡ is_tight s
unfolding is_tight
tight_none [] e = refl
tight_none (b ∷ t) e = absurd (omega arith)

pub tight_some : (s : List ℕ) → (length s ≡ 0 → ⊥) → not (eqb (get_or s 0 0) 32) && not (eqb (get_or s (length s - 1) 0) 32) ≡ is_tight s
unfolding is_tight
tight_some [] n = absurd (n refl)
tight_some (b ∷ t) n = let e : suc (length t) - 1 ≡ length t = omega arith in rw e

-- A field with no blank at either end is its value.
trim_tight : (s : List ℕ) → is_tight s ≡ true → trim s ≡ s
unfolding is_tight
trim_tight [] e = refl
trim_tight (b ∷ t) e =
    let p = both (not (eqb b 32)) (not (eqb (get_or (b ∷ t) (length t) 0) 32)) e in
    let n : suc (length t) - 1 ≡ length t = omega arith in
    let last : get_or (b ∷ t) (suc (length t) - 1) 0 ≡ 32 → ⊥ = rw n (eqb-false _ _ (not_true _ p.1)) in
    let lead : drop_lead (b ∷ t) ≡ b ∷ t = rw (not_true (eqb b 32) p.0) in
    ap drop_trail lead ∙ sym (trail_bytes (b ∷ t) (suc (length t)) (trail_start (b ∷ t)) (omega arith) (omega arith) last) ∙ take-length (b ∷ t)

tight_lead : (s : List ℕ) → is_tight s ≡ true → 0 ≡ leading_blanks s
unfolding is_tight
tight_lead [] e = refl
tight_lead (b ∷ t) e = let p = both (not (eqb b 32)) (not (eqb (get_or (b ∷ t) (length t) 0) 32)) e in rw (not_true (eqb b 32) p.0)

pub trim_none : (s : List ℕ) → is_tight s ≡ true → TrimmedIs s 0 (length s)
trim_none s e = record {
  start_is = tight_lead s e;
  size_is = ap length (sym (trim_tight s e));
  value = take-length s ∙ sym (trim_tight s e);
  within = omega arith;
}

-- What `field_at` returns is the field at a.
pub field_parts : (l : List ℕ) (a w s n : ℕ) → a ≤ length l
    → w ≡ up_to 124 (take (length l - a) (drop a l))
    → TrimmedIs (take (a + w - a) (drop a l)) s n
    → FieldAt l a (a + s) n (a + w)
field_parts l a w s n h u v =
    let w-is : w ≡ up_to 124 (drop a l) = u ∙ ap (λ (x : List ℕ). up_to 124 x) (rest_of l a h) in
    let c : a + w - a ≡ w = omega arith in
    let f : take (a + w - a) (drop a l) ≡ field_from l a = rw c (ap (λ (x : ℕ). take x (drop a l)) w-is) in
    let fits : s + n ≤ w = omega (arith, v.within, length-take (a + w - a) (drop a l)) in
    record {
      start_is = ap (λ (x : ℕ). a + x) (v.start_is ∙ ap (λ (x : List ℕ). leading_blanks x) f);
      size_is = v.size_is ∙ ap (λ (x : List ℕ). length (trim x)) f;
      till_is = omega arith;
      value = sym (part_of_part l a w s n fits) ∙ (rw c at v.value) ∙ ap (λ (x : List ℕ). trim x) (rw c at f);
      within = omega arith;
      fits = λ k. omega (arith, up_to_le 124 (drop a l), length-drop a l);
    }

-- Past the end of the line there is nothing.
pub field_past : (l : List ℕ) (a : ℕ) → length l < a → FieldAt l a a 0 a
field_past l a h =
    let e : drop a l ≡ [] = drop_of_length-le l {i = a} (omega arith) in
    record {
      start_is = rw e (omega arith);
      size_is = rw e;
      till_is = rw e (omega arith);
      value = rw e;
      within = omega arith;
      fits = λ k. omega arith;
    }
