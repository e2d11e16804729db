-- Laws of fields: blanks are dropped once, the fields of a line are clean, and clean fields parted by bars are the fields of their line.
use Prim.Native.Nat.{ℕ, suc, ◌≤◌, ◌<◌, ◌+◌}
use mathlib.Core.Path.{◌≡◌, refl, ap, sym, ◌∙◌}
use mathlib.Core.Bool.{Bool, true, false, not, ◌&&◌, true≢false}
use mathlib.Core.List.{List, [], ◌∷◌, ◌++◌, map, append_assoc}
use native.Mathlib.Omega.{arith}
use lib.Dec.{eqb}
use lib.ListN.{length, length-append}
use borrow.Author.Tests.{eqb-true, not-true}
use Rattle.text.specs.Lines.{bar, line_feed, is_printable, printable, line, lines, fields, into, drop_lead, drop_trail, before, trim}
use Rattle.text.proofs.Bools.{bools}
use Rattle.text.proofs.LineLaws.{fields_first}
use Rattle.layout.specs.Written.{barred, line_of}
use Rattle.layout.specs.Cost.{size_of}
use Rattle.layout.proofs.ColumnLaws.{and_first, and_second, weigh}

-- Blanks.

trail_twice : (f : List ℕ) → drop_trail (drop_trail f) ≡ drop_trail f
trail_twice [] = refl
trail_twice (b ∷ t) = go (drop_trail t) (trail_twice t)
  where
    go : (u : List ℕ) → drop_trail u ≡ u → drop_trail (before b u) ≡ before b u
    go [] e = bools (eqb b 32) (λ q. rw q) (λ q. rw (q, q))
    go (x ∷ u) e = rw e

lead_le : (f : List ℕ) → length (drop_lead f) ≤ length f
lead_le [] = omega arith
lead_le (b ∷ t) = let i = lead_le t in bools (eqb b 32) (λ e. rw e (omega arith)) (λ e. rw e (omega arith))

lead_trail : (f : List ℕ) → drop_lead f ≡ f → drop_lead (drop_trail f) ≡ drop_trail f
lead_trail [] e = refl
lead_trail (b ∷ t) e = go (drop_trail t)
  where
    solid : eqb b 32 ≡ false
    solid = bools (eqb b 32) (λ q. absurd (omega (arith, ap (λ (x : List ℕ). length x) (rw q at e), lead_le t))) (λ q. q)

    go : (u : List ℕ) → drop_lead (before b u) ≡ before b u
    go [] = rw (solid, solid)
    go (x ∷ u) = rw solid

lead_twice : (f : List ℕ) → drop_lead (drop_lead f) ≡ drop_lead f
lead_twice [] = refl
lead_twice (b ∷ t) = bools (eqb b 32) (λ q. rw q (lead_twice t)) (λ q. rw (q, q))

-- A value has no blanks left to drop.
pub trim_twice : (f : List ℕ) → trim (trim f) ≡ trim f
trim_twice f = rw (lead_trail (drop_lead f) (lead_twice f)) (trail_twice (drop_lead f))

before_le : (b : ℕ) (t : List ℕ) → length (before b t) ≤ suc (length t)
before_le b [] = bools (eqb b 32) (λ e. rw e (omega arith)) (λ e. rw e (omega arith))
before_le b (x ∷ t) = omega arith

trail_le : (f : List ℕ) → length (drop_trail f) ≤ length f
trail_le [] = omega arith
trail_le (b ∷ t) = omega (arith, trail_le t, before_le b (drop_trail t))

-- A value is no longer than its field.
pub trim_le : (f : List ℕ) → length (trim f) ≤ length f
trim_le f = omega (arith, trail_le (drop_lead f), lead_le f)

-- Clean bytes.

-- The byte can stand in a value: 0x20 to 0x7E and no bar.
abbrev pub is_value_byte : ℕ → Bool
is_value_byte b = is_printable b && not (eqb b bar)

-- Every byte can stand in a value.
unfoldable pub is_clean : List ℕ → Bool
is_clean [] = true
is_clean (b ∷ t) = is_value_byte b && is_clean t

clean_head : (b : ℕ) (t : List ℕ) → is_clean (b ∷ t) ≡ true → is_value_byte b ≡ true
unfolding is_clean
clean_head b t h = and_first (is_value_byte b) (is_clean t) h

clean_tail : (b : ℕ) (t : List ℕ) → is_clean (b ∷ t) ≡ true → is_clean t ≡ true
unfolding is_clean
clean_tail b t h = and_second (is_value_byte b) (is_clean t) h

clean_cons : (b : ℕ) (t : List ℕ) → is_value_byte b ≡ true → is_clean t ≡ true → is_clean (b ∷ t) ≡ true
unfolding is_clean
clean_cons b t h k = rw (h, k)

clean_lead : (f : List ℕ) → is_clean f ≡ true → is_clean (drop_lead f) ≡ true
clean_lead [] h = h
clean_lead (b ∷ t) h = bools (eqb b 32) (λ q. rw q (clean_lead t (clean_tail b t h))) (λ q. rw q h)

clean_trail : (f : List ℕ) → is_clean f ≡ true → is_clean (drop_trail f) ≡ true
clean_trail [] h = h
clean_trail (b ∷ t) h = go (drop_trail t) (clean_trail t (clean_tail b t h))
  where
    go : (u : List ℕ) → is_clean u ≡ true → is_clean (before b u) ≡ true
    go [] k = bools (eqb b 32) (λ q. rw q k) (λ q. rw q (clean_cons b [] (clean_head b t h) k))
    go (x ∷ u) k = clean_cons b (x ∷ u) (clean_head b t h) k

-- What blanks are dropped from stays clean.
pub clean_trim : (f : List ℕ) → is_clean f ≡ true → is_clean (trim f) ≡ true
clean_trim f h = clean_trail (drop_lead f) (clean_lead f h)

-- Each field is clean.
pub data Cleans : List (List ℕ) → Type 0 where
  none : Cleans []
  one : {f : List ℕ} {fs : List (List ℕ)} → is_clean f ≡ true → Cleans fs → Cleans (f ∷ fs)

cleans_into : (b : ℕ) (fs : List (List ℕ)) → is_value_byte b ≡ true → Cleans fs → Cleans (into b fs)
unfolding is_clean
cleans_into b fs h none = one {f = b ∷ []} (rw h) none
cleans_into b fs h (one {f = f} c cs) = one {f = b ∷ f} (clean_cons b f h c) cs

-- The fields of a line of bytes 0x20 to 0x7E are clean.
pub fields_clean : (l : List ℕ) → printable l ≡ true → Cleans (fields l)
unfolding is_clean
fields_clean [] h = one refl none
fields_clean (b ∷ t) h =
    let i = fields_clean t (and_second (is_printable b) (printable t) h) in
    bools (eqb b bar)
    (λ q. rw q (one refl i))
    (λ q. rw q (cleans_into b (fields t) (rw (and_first (is_printable b) (printable t) h, q)) i))

-- Clean bytes are 0x20 to 0x7E.
pub clean_printable : (v : List ℕ) → is_clean v ≡ true → printable v ≡ true
unfolding is_clean
clean_printable [] h = refl
clean_printable (b ∷ t) h =
    rw (and_first (is_printable b) (not (eqb b bar)) (clean_head b t h)) (clean_printable t (clean_tail b t h))

clean_unbarred : (b : ℕ) (t : List ℕ) → is_clean (b ∷ t) ≡ true → eqb b bar ≡ false
clean_unbarred b t h = not-true (eqb b bar) (and_second (is_printable b) (not (eqb b bar)) (clean_head b t h))

-- Fields and their line.

-- A clean text before a bar is a field, and alone it is the only one.
fields_bar : (f t : List ℕ) → is_clean f ≡ true → fields (f ++ (bar ∷ t)) ≡ f ∷ fields t
fields_bar [] t h = refl
fields_bar (b ∷ f) t h = rw (clean_unbarred b f h, fields_bar f t (clean_tail b f h))

fields_one : (f : List ℕ) → is_clean f ≡ true → fields f ≡ f ∷ []
fields_one [] h = refl
fields_one (b ∷ f) h = rw (clean_unbarred b f h, fields_one f (clean_tail b f h))

-- Clean fields parted by bars are the fields of their line.
pub fields_barred : (f : List ℕ) (fs : List (List ℕ)) → Cleans (f ∷ fs) → fields (barred (f ∷ fs)) ≡ f ∷ fs
unfolding barred
fields_barred f [] (one c cs) = fields_one f c
fields_barred f (g ∷ fs) (one c cs) = fields_bar f (barred (g ∷ fs)) c ∙ ap (λ (x : List (List ℕ)). f ∷ x) (fields_barred g fs cs)

printable_append : (a b : List ℕ) → printable a ≡ true → printable b ≡ true → printable (a ++ b) ≡ true
printable_append [] b h k = k
printable_append (x ∷ a) b h k =
    rw (and_first (is_printable x) (printable a) h) (printable_append a b (and_second (is_printable x) (printable a) h) k)

-- And their line has bytes 0x20 to 0x7E only.
pub barred_printable : (fs : List (List ℕ)) → Cleans fs → printable (barred fs) ≡ true
unfolding barred
barred_printable [] none = refl
barred_printable (f ∷ []) (one c cs) = clean_printable f c
barred_printable (f ∷ g ∷ fs) (one c cs) = printable_append f (bar ∷ barred (g ∷ fs)) (clean_printable f c) (barred_printable (g ∷ fs) cs)

-- Lines.

-- A text of bytes 0x20 to 0x7E before an LF is a line.
lines_feed : (l rest : List ℕ) → printable l ≡ true → lines (l ++ (line_feed ∷ rest)) ≡ line l (lines rest)
lines_feed [] rest h = refl
lines_feed (b ∷ t) rest h =
    bools (eqb b line_feed)
    (λ e. let q : b ≡ 10 = eqb-true b 10 e in absurd (true≢false (sym (rw q at h))))
    (λ e. rw (e, lines_feed t rest (and_second (is_printable b) (printable t) h)))

-- A line of fields, and the lines after it.
pub lines_line_of : (fs : List (List ℕ)) (rest : List ℕ) → printable (barred fs) ≡ true → lines (line_of fs ++ rest) ≡ line (barred fs) (lines rest)
unfolding line_of
lines_line_of fs rest h = rw append_assoc (lines_feed (barred fs) rest h)

-- Lengths.

barred_length : (f : List ℕ) (fs : List (List ℕ)) → suc (length (barred (f ∷ fs))) ≡ size_of (f ∷ fs) + length (f ∷ fs)
unfolding barred size_of
barred_length f [] = omega arith
barred_length f (g ∷ fs) = omega (arith, length-append f (bar ∷ barred (g ∷ fs)), barred_length g fs)

-- A line has the bytes of its fields, and one for each: a bar after it, or the LF.
pub line_length : (f : List ℕ) (fs : List (List ℕ)) → length (line_of (f ∷ fs)) ≡ size_of (f ∷ fs) + length (f ∷ fs)
unfolding line_of
line_length f fs = omega (arith, length-append (barred (f ∷ fs)) (line_feed ∷ []), barred_length f fs)

-- The fields of a line read: the same.
pub fields_size : (l : List ℕ) → size_of (fields l) + length (fields l) ≡ suc (length l)
unfolding size_of
fields_size [] = refl
fields_size (b ∷ t) =
    let i = fields_size t in
    bools (eqb b bar) (λ e. rw e (omega arith)) (λ e. rw e (omega (arith, into_size b (fields t) (some t))))
  where
    some : (t : List ℕ) → 0 < length (fields t)
    some t = rw (fields_first t).1 (omega arith)

    into_size : (b : ℕ) (fs : List (List ℕ)) → 0 < length fs → size_of (into b fs) + length (into b fs) ≡ suc (size_of fs + length fs)
    into_size b [] h = absurd (omega arith)
    into_size b (f ∷ fs) h = omega arith

-- The bytes of texts that are looked up.
pub map_size : (g : ℕ → List ℕ) (cs : List ℕ) → size_of (map g cs) ≡ weigh (λ c. length (g c)) cs
unfolding size_of weigh
map_size g [] = refl
map_size g (c ∷ cs) = ap (λ (x : ℕ). length (g c) + x) (map_size g cs)
