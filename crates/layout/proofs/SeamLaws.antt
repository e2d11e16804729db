-- Which block spans a seam; and cuts of joined rows parted there: cuts of the rows before the seam and of those after it, which together write
-- no more bytes than the cuts of the join, and where a block spans the seam no more than its version line and its column line besides.
use Prim.Native.Nat.{ℕ, zero, suc, ◌+◌, ◌-◌, ◌≤◌, ◌<◌}
use mathlib.Core.Path.{◌≡◌, refl, ap, sym, ◌∙◌}
use mathlib.Core.Bool.{true, false, cond, true≢false}
use mathlib.Core.List.{List, [], ◌∷◌, ◌++◌}
use native.Mathlib.Omega.{arith}
use lib.Dec.{eqb, leb}
use lib.ListN.{length, take, drop, get_or, length-append, length-drop}
use lib.Seq.{take-length, drop-length, take-append_seam, drop-append_seam, take-append-le, drop-append-le, take-append-add, drop-append-add, drop-drop}
use borrow.Author.Tests.{eqb-true, leb-true, leb-false, le-leb, lt-leb, ltb-true, lt-ltb}
use Rattle.text.proofs.Bools.{bools}
use Rattle.element.specs.Table.{name_of}
use Rattle.element.specs.Observation.{Observation, is_present}
use Rattle.report.specs.Report.{member}
use Rattle.cuts.specs.Block.{total}
use Rattle.cuts.specs.Cuts.{stretch}
use Rattle.layout.specs.Written.{is_anywhere, columns_of, block_text, written, mark_of, Valid}
use Rattle.layout.specs.Seam.{spans, seam_block, head_text}
use Rattle.layout.proofs.ColumnLaws.{suc_weighs}
use Rattle.layout.proofs.Accepted.{AllRight, right_take, right_drop}
use Rattle.layout.proofs.BlockReads.{AllUnder, block_under}
use Rattle.layout.proofs.BlockBytes.{rows_bytes, head_length_lem, block_length_lem}
use Rattle.layout.proofs.NoShorter.{block_least}

-- ---- which block spans a seam

-- A block of so many rows, with these cuts before it and these after it, has rows before the seam and rows after it.
pub record SpannedBy (cuts : List ℕ) (n : ℕ) : Type 0 where
  pub before : List ℕ
  pub count : ℕ
  pub after : List ℕ
  pub is : cuts ≡ before ++ (count ∷ after)
  pub begins : total before < n
  pub ends : n < total before + count

-- The cuts have it where some block spans the seam.
pub spanned : (cuts : List ℕ) (n : ℕ) → spans cuts n ≡ true → SpannedBy cuts n
unfolding spans total
spanned [] n h = absurd (true≢false (sym h))
spanned (k ∷ ks) n h =
    bools (leb k n)
    (λ e.
    let s = spanned ks (n - k) (rw e at h) in
    record {
      before = k ∷ s.before;
      count = s.count;
      after = s.after;
      is = ap (λ (l : List ℕ). k ∷ l) s.is;
      begins = omega (arith, s.begins, leb-true k n e);
      ends = omega (arith, s.ends, leb-true k n e);
    })
    (λ e. record {
      before = [];
      count = k;
      after = ks;
      is = refl;
      begins = ltb-true 0 n (rw e at h);
      ends = omega (arith, leb-false k n e);
    })

-- And only there.
pub spans_where : (cuts : List ℕ) (n : ℕ) → SpannedBy cuts n → spans cuts n ≡ true
unfolding spans total
spans_where cuts n s = ap (λ (l : List ℕ). spans l n) s.is ∙ go s.before n s.begins s.ends
  where
    go : (before : List ℕ) (n : ℕ) → total before < n → n < total before + s.count → spans (before ++ (s.count ∷ s.after)) n ≡ true
    go [] n b e = rw (lt-leb s.count n (omega arith)) (lt-ltb 0 n (omega arith))
    go (k ∷ ks) n b e = rw (le-leb k n (omega arith)) (go ks (n - k) (omega arith) (omega arith))

-- That block has the rows of the block at the seam.
pub seam_rows : (cuts : List ℕ) (n : ℕ) (rows : List Observation) (s : SpannedBy cuts n)
    → seam_block cuts n rows ≡ take s.count (drop (total s.before) rows)
unfolding seam_block total
seam_rows cuts n rows s = ap (λ (l : List ℕ). seam_block l n rows) s.is ∙ go s.before n rows s.begins s.ends
  where
    go : (before : List ℕ) (n : ℕ) (rows : List Observation) → total before < n → n < total before + s.count
        → seam_block (before ++ (s.count ∷ s.after)) n rows ≡ take s.count (drop (total before) rows)
    go [] n rows b e = rw (lt-leb s.count n (omega arith)) refl
    go (k ∷ ks) n rows b e =
        rw (le-leb k n (omega arith))
        (go ks (n - k) (drop k rows) (omega arith) (omega arith) ∙ ap (take s.count) (drop-drop (total ks) k rows))

total_append : (ks ls : List ℕ) → total (ks ++ ls) ≡ total ks + total ls
unfolding total
total_append [] ls = omega arith
total_append (k ∷ ks) ls = omega (arith, total_append ks ls)

-- No block spans a seam before the first row.
pub none_at_start : (cuts : List ℕ) → spans cuts 0 ≡ false
none_at_start cuts = bools (spans cuts 0) (λ e. absurd (omega (arith, (spanned cuts 0 e).begins))) (λ e. e)

-- Nor one after the last.
pub none_at_end : (cuts : List ℕ) → spans cuts (total cuts) ≡ false
unfolding total
none_at_end cuts =
    bools (spans cuts (total cuts))
    (λ e.
    let s = spanned cuts (total cuts) e in
    absurd (omega (arith, s.ends, ap total s.is, total_append s.before (s.count ∷ s.after))))
    (λ e. e)

-- No more rows may stand together than there are.
pub stretch_within : {A : Type 0} (mark : A → ℕ) (m : ℕ) (xs : List A) → stretch mark m xs ≤ length xs
unfolding stretch
stretch_within mark m [] = omega arith
stretch_within mark m (x ∷ xs) = let i = stretch_within mark m xs in bools (eqb (mark x) m) (λ e. rw e (omega arith)) (λ e. rw e (omega arith))

-- The cuts of rows have as many rows together as there are.
pub cuts_total : (cuts : List ℕ) (L : List Observation) → Valid cuts L → total cuts ≡ length L
unfolding total
cuts_total [] [] v = refl
cuts_total [] (x ∷ xs) v = absurd v
cuts_total (k ∷ ks) [] v = absurd v
cuts_total (zero ∷ ks) (x ∷ xs) v = absurd v
cuts_total (suc k ∷ ks) (x ∷ xs) v =
    omega (arith, cuts_total ks (drop k xs) v.1, length-drop k xs, v.0, stretch_within mark_of (mark_of x) xs)

-- ---- a block in two

-- Rows of a block's part are under its columns.
under_anywhere : (columns : List ℕ) (rows : List Observation) → AllUnder columns rows → (e : ℕ) → is_anywhere rows e ≡ true → member e columns ≡ true
unfolding is_anywhere
under_anywhere columns [] u e a = absurd (true≢false (sym a))
under_anywhere columns (o ∷ os) u e a =
    bools (is_present (get_or o e [])) (λ p. u.0 e p) (λ p. under_anywhere columns os u.1 e (rw p at a))

under_append : (columns : List ℕ) (P Q : List Observation) → AllUnder columns (P ++ Q) → AllUnder columns P × AllUnder columns Q
under_append columns [] Q u = (tt, u)
under_append columns (o ∷ os) Q u = let i = under_append columns os Q u.1 in ((u.0, i.0), i.1)

right_append : (P Q : List Observation) → AllRight (P ++ Q) → AllRight P × AllRight Q
right_append P Q r =
    (rw (take-append_seam P Q) at (right_take (length P) (P ++ Q) r), rw (drop-append_seam P Q) at (right_drop (length P) (P ++ Q) r))

rows_append : (n : ℕ) (P Q : List Observation) → rows_bytes n (P ++ Q) ≡ rows_bytes n P + rows_bytes n Q
unfolding rows_bytes
rows_append n [] Q = omega arith
rows_append n (o ∷ os) Q = omega (arith, rows_append n os Q)

-- Two blocks in place of one have no more bytes than it and its version line and column line.
two_blocks : (x : Observation) (xs : List Observation) (y : Observation) (ys : List Observation) → AllRight (x ∷ (xs ++ (y ∷ ys)))
    → length (block_text (x ∷ xs)) + length (block_text (y ∷ ys))
    ≤ length (block_text (x ∷ (xs ++ (y ∷ ys)))) + length (head_text (x ∷ (xs ++ (y ∷ ys))))
two_blocks x xs y ys r =
    let all : List Observation = x ∷ (xs ++ (y ∷ ys)) in
    let columns : List ℕ = columns_of all in
    let u = under_append columns (x ∷ xs) (y ∷ ys) (block_under all r) in
    let s = right_append (x ∷ xs) (y ∷ ys) r in
    omega (
      arith,
      block_least x xs columns s.0 (under_anywhere columns (x ∷ xs) u.0),
      block_least y ys columns s.1 (under_anywhere columns (y ∷ ys) u.1),
      block_length_lem x (xs ++ (y ∷ ys)) r,
      head_length_lem x (xs ++ (y ∷ ys)) r.0,
      rows_append (length columns) (x ∷ xs) (y ∷ ys),
      suc_weighs (λ e. length (name_of e)) columns,
    )

-- ---- rows of one mark on both sides of the seam

module _ {A : Type 0} (mark : A → ℕ) where
  -- Rows that may stand together in the join may where it ends at the seam.
  stretch_before : (m k : ℕ) (xs ys : List A) → k ≤ stretch mark m (xs ++ ys) → k ≤ length xs → k ≤ stretch mark m xs
  unfolding stretch
  stretch_before m zero xs ys h g = omega arith
  stretch_before m (suc k) [] ys h g = absurd (omega arith)
  stretch_before m (suc k) (x ∷ xs) ys h g =
      bools (eqb (mark x) m)
      (λ e. rw e (omega (arith, stretch_before m k xs ys (omega (arith, rw e at h)) (omega arith))))
      (λ e. absurd (omega (arith, rw e at h)))

  -- Where they pass the seam there is a row after it, which has their mark and may stand together with the others after the seam.
  stretch_after : (m j : ℕ) (xs : List A) (y : A) (ys : List A) → length xs + suc j ≤ stretch mark m (xs ++ (y ∷ ys))
      → (mark y ≡ m) × (j ≤ stretch mark m ys)
  unfolding stretch
  stretch_after m j [] y ys h =
      bools (eqb (mark y) m) (λ e. (eqb-true (mark y) m e, omega (arith, rw e at h))) (λ e. absurd (omega (arith, rw e at h)))
  stretch_after m j (x ∷ xs) y ys h =
      bools (eqb (mark x) m) (λ e. stretch_after m j xs y ys (omega (arith, rw e at h))) (λ e. absurd (omega (arith, rw e at h)))

-- ---- cuts parted at the seam

-- The bytes that parting costs at most: the version line and the column line of the block that spans the seam.
abbrev pub seam_bytes : List ℕ → ℕ → List Observation → ℕ
seam_bytes cuts n rows = cond (spans cuts n) (length (head_text (seam_block cuts n rows))) 0

-- Cuts of the rows before the seam and of those after it; where no block spans the seam these in turn are the cuts of the join.
pub record Parted (cuts : List ℕ) (A B : List Observation) : Type 0 where
  pub first : List ℕ
  pub second : List ℕ
  pub first_valid : Valid first A
  pub second_valid : Valid second B
  pub bytes : length (written first A) + length (written second B) ≤ length (written cuts (A ++ B)) + seam_bytes cuts (length A) (A ++ B)
  pub in_turn : spans cuts (length A) ≡ false → cuts ≡ first ++ second

-- A block that ends before the seam, or at it, is passed over.
spans_later : (k : ℕ) (ks : List ℕ) (x : Observation) (xs : List Observation) → k ≤ length xs
    → spans (suc k ∷ ks) (length (x ∷ xs)) ≡ spans ks (length (drop k xs))
unfolding spans
spans_later k ks x xs h =
    let n : length (x ∷ xs) - suc k ≡ length (drop k xs) = omega (arith, length-drop k xs) in
    rw (le-leb (suc k) (length (x ∷ xs)) (omega arith), n) refl

block_later : (k : ℕ) (ks : List ℕ) (x : Observation) (xs B : List Observation) → k ≤ length xs
    → seam_block (suc k ∷ ks) (length (x ∷ xs)) (x ∷ (xs ++ B)) ≡ seam_block ks (length (drop k xs)) (drop k xs ++ B)
unfolding seam_block
block_later k ks x xs B h =
    let n : length (x ∷ xs) - suc k ≡ length (drop k xs) = omega (arith, length-drop k xs) in
    rw (le-leb (suc k) (length (x ∷ xs)) (omega arith), n, drop-append-le k xs B h) refl

-- So it stays whole.
whole_block : (k : ℕ) (ks : List ℕ) (x : Observation) (xs B : List Observation) → k ≤ length xs → k ≤ stretch mark_of (mark_of x) (xs ++ B)
    → Parted ks (drop k xs) B → Parted (suc k ∷ ks) (x ∷ xs) B
unfolding written
whole_block k ks x xs B h v p = record {
  first = suc k ∷ p.first;
  second = p.second;
  first_valid = (stretch_before mark_of (mark_of x) k xs B v h, p.first_valid);
  second_valid = p.second_valid;
  bytes =
      rw (spans_later k ks x xs h, block_later k ks x xs B h, take-append-le k xs B h, drop-append-le k xs B h) (omega (
        arith,
        p.bytes,
        length-append (block_text (x ∷ take k xs)) (written p.first (drop k xs)),
        length-append (block_text (x ∷ take k xs)) (written ks (drop k xs ++ B)),
      ));
  in_turn = λ none. ap (λ (l : List ℕ). suc k ∷ l) (p.in_turn (sym (spans_later k ks x xs h) ∙ none));
}

-- A block of more rows than are left before the seam spans it.
spans_here : (j : ℕ) (ks : List ℕ) (x : Observation) (xs : List Observation) → spans (suc (length xs + suc j) ∷ ks) (length (x ∷ xs)) ≡ true
unfolding spans
spans_here j ks x xs = rw (lt-leb (suc (length xs + suc j)) (length (x ∷ xs)) (omega arith)) (lt-ltb 0 (length (x ∷ xs)) (omega arith))

block_here : (j : ℕ) (ks : List ℕ) (x : Observation) (xs : List Observation) (y : Observation) (ys : List Observation)
    → seam_block (suc (length xs + suc j) ∷ ks) (length (x ∷ xs)) (x ∷ (xs ++ (y ∷ ys))) ≡ x ∷ (xs ++ (y ∷ take j ys))
unfolding seam_block
block_here j ks x xs y ys =
    rw (lt-leb (suc (length xs + suc j)) (length (x ∷ xs)) (omega arith), take-append-add xs (y ∷ ys) (suc j)) refl

-- It becomes two.
seam_block_lem : (j : ℕ) (ks : List ℕ) (x : Observation) (xs : List Observation) (y : Observation) (ys : List Observation)
    → length xs + suc j ≤ stretch mark_of (mark_of x) (xs ++ (y ∷ ys)) → Valid ks (drop j ys) → AllRight (x ∷ (xs ++ (y ∷ ys)))
    → Parted (suc (length xs + suc j) ∷ ks) (x ∷ xs) (y ∷ ys)
unfolding written
seam_block_lem j ks x xs y ys v w r =
    let s = stretch_after mark_of (mark_of x) j xs y ys v in
    let t : take (length xs + suc j) (xs ++ (y ∷ ys)) ≡ xs ++ (y ∷ take j ys) = take-append-add xs (y ∷ ys) (suc j) in
    let a : AllRight (x ∷ (xs ++ (y ∷ take j ys))) = rw t at (right_take (suc (length xs + suc j)) (x ∷ (xs ++ (y ∷ ys))) r) in
    record {
      first = suc (length xs) ∷ [];
      second = suc j ∷ ks;
      first_valid = (stretch_before mark_of (mark_of x) (length xs) xs (y ∷ ys) (omega arith) (omega arith), rw (drop-length xs) tt);
      second_valid = (rw s.0 s.1, w);
      bytes =
          rw (spans_here j ks x xs, block_here j ks x xs y ys, t, drop-append-add xs (y ∷ ys) (suc j), take-length xs) (omega (
            arith,
            two_blocks x xs y (take j ys) a,
            length-append (block_text (x ∷ xs)) [],
            length-append (block_text (y ∷ take j ys)) (written ks (drop j ys)),
            length-append (block_text (x ∷ (xs ++ (y ∷ take j ys)))) (written ks (drop j ys)),
          ));
      in_turn = λ none. absurd (true≢false (sym (spans_here j ks x xs) ∙ none));
    }

-- Such a block has a row after the seam.
past_seam : (k : ℕ) (ks : List ℕ) (x : Observation) (xs B : List Observation) → length xs < k → k ≤ stretch mark_of (mark_of x) (xs ++ B)
    → Valid ks (drop k (xs ++ B)) → AllRight (x ∷ (xs ++ B)) → Parted (suc k ∷ ks) (x ∷ xs) B
past_seam k ks x xs [] h v w r = absurd (omega (arith, stretch_within mark_of (mark_of x) (xs ++ []), length-append xs []))
past_seam k ks x xs (y ∷ ys) h v w r = go (k - suc (length xs)) (omega arith)
  where
    go : (j : ℕ) → k ≡ length xs + suc j → Parted (suc k ∷ ks) (x ∷ xs) (y ∷ ys)
    go j e = rw e (seam_block_lem j ks x xs y ys (rw e at v) (rw (e, drop-append-add xs (y ∷ ys) (suc j)) at w) r)

-- No rows stand before the seam.
none_before : (cuts : List ℕ) (B : List Observation) → Valid cuts B → Parted cuts [] B
unfolding written
none_before cuts B v = record { first = []; second = cuts; first_valid = tt; second_valid = v; bytes = omega arith; in_turn = λ none. refl }

-- Cuts of the join are parted at the seam.
pub parted : (cuts : List ℕ) (A B : List Observation) → Valid cuts (A ++ B) → AllRight (A ++ B) → Parted cuts A B
parted [] [] B v r = none_before [] B v
parted [] (x ∷ xs) B v r = absurd v
parted (k ∷ ks) [] B v r = none_before (k ∷ ks) B v
parted (zero ∷ ks) (x ∷ xs) B v r = absurd v
parted (suc k ∷ ks) (x ∷ xs) B v r =
    bools (leb k (length xs))
    (λ e.
    let h : k ≤ length xs = leb-true k (length xs) e in
    let d : drop k (xs ++ B) ≡ drop k xs ++ B = drop-append-le k xs B h in
    whole_block k ks x xs B h v.0 (parted ks (drop k xs) B (rw d at v.1) (rw d at (right_drop k (xs ++ B) r.1))))
    (λ e. past_seam k ks x xs B (leb-false k (length xs) e) v.0 v.1 r)
