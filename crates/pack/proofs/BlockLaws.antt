-- Laws of blocks: their rows one after the other, their columns, and one block after the other.
use Prim.Native.Nat.{ℕ, zero, suc, ◌+◌, ◌-◌, ◌≤◌, ◌<◌}
use mathlib.Core.Path.{◌≡◌, refl, sym, ap, ◌∙◌}
use mathlib.Core.Bool.{true}
use mathlib.Core.List.{List, [], ◌∷◌, ◌++◌, map}
use native.Mathlib.Numerals.{add-one}
use native.Mathlib.Omega.{arith}
use lib.Dec.{eqb}
use lib.ListN.{length, take, drop, get_or, length-take, length-drop, length-map, length-append, drop_of_length-le, get_or-map}
use lib.Seq.{drop-cons, drop-drop, get_or-take, get_or-drop, ext_get_or}
use borrow.Author.Tests.{eq-eqb}
use Rattle.text.proofs.Bools.{bools}
use Rattle.element.specs.Set.{joined}
use Rattle.element.specs.Observation.{Observation, set_of}
use Rattle.report.specs.Report.{Outcome, accepted, refused, read, version_line, member}
use Rattle.report.specs.declared.index.Row.{Row}
use Rattle.cuts.specs.Cuts.{stretch}
use Rattle.layout.specs.Written.{line_of, names_at, data_lines, columns_of, block_text, written, mark_of, Valid}
use Rattle.layout.proofs.Accepted.{AllRight, right_take, right_drop, accepted_right}
use Rattle.layout.proofs.BlockReads.{first_column}
use Rattle.layout.proofs.ColumnLaws.{columns_below, or_second}
use Rattle.pack.specs.Inner.{observations_of, observed, Indexed, Wrote, Columns, row_line, rows_from, columns_in, RowAsks, RowsAsk, BlockAsks, BlocksAsk}
use Rattle.pack.proofs.WritingLaws.{Writing, write_begin, write_next, write_end, write_fits, write_room, write_first, last_fits, last_room, write_last}
use Rattle.pack.proofs.ColumnLaws.{columns_joined}

-- The observations of a report are right.
pub observed_right : (report : List ℕ) → AllRight (observed report)
unfolding observed
observed_right report = go (read report) refl
  where
    go : (o : Outcome) → read report ≡ o → AllRight (observations_of o)
    go (accepted L) e = accepted_right report L e
    go (refused x) e = tt

-- Rows.

-- One of the rows from a first one on.
row_at : (report : List ℕ) (first count i : ℕ) → i < count → get_or (rows_from report first count) i [] ≡ get_or (observed report) (first + i) []
row_at report first count i h = get_or-take count (drop first (observed report)) i [] h ∙ get_or-drop first (observed report) i []

rows_length : (report : List ℕ) (first count : ℕ) → first + count ≤ length (observed report) → length (rows_from report first count) ≡ count
rows_length report first count h = simp (length-take, length-drop) (omega arith)

-- The rows from one on up to an end, one by one.
rows_step : (report : List ℕ) (row end : ℕ) → row < end → end ≤ length (observed report)
    → rows_from report row (end - row) ≡ get_or (observed report) row [] ∷ rows_from report (row + 1) (end - (row + 1))
rows_step report row end h k =
    let n : end - row ≡ suc (end - (row + 1)) = omega arith in
    rw (n, drop-cons (observed report) row [] (omega arith), add-one row) refl

module _ {report : List ℕ} {index : List Row} {columns before : List ℕ} {first count : ℕ} (asks : RowsAsk report index columns before first count) where
  abbrev all : List ℕ
  all = data_lines columns (rows_from report first count)

  -- The data lines of the rows from one on.
  abbrev pub lines_left : ℕ → List ℕ
  lines_left row = data_lines columns (rows_from report row (first + count - row))

  pub rows_begin : Writing all before before 0 (lines_left first)
  rows_begin = let e : first + count - first ≡ count = omega arith in rw e (write_begin all before asks.room)

  module _ {after : List ℕ} {at row : ℕ} (h : row < first + count) (w : Writing all before after at (lines_left row)) where
    -- A row more.
    pub rows_turn : Writing all before after at (row_line report columns row ++ lines_left (row + 1))
    unfolding data_lines
    rows_turn = rw (rows_step report row (first + count) h asks.inside) at w

    -- It can be written.
    pub row_asks : RowAsks report index columns (take (length after - at) (drop at after)) row
    row_asks = record {
      indexed = asks.indexed;
      inside = omega (arith, asks.inside);
      columns_are = asks.columns_are;
      room = write_fits (row_line report columns row) _ rows_turn;
    }

    pub row_room : at + length (row_line report columns row) ≤ length after
    row_room = write_room (row_line report columns row) _ rows_turn

  -- All rows are written.
  pub rows_end : {after : List ℕ} {at row : ℕ} → first + count ≤ row → Writing all before after at (lines_left row) → Wrote all before after at
  unfolding data_lines
  rows_end {row = row} h w = let none : first + count - row ≡ 0 = omega arith in write_end (rw none at w)

-- A block.

-- The sets of the rows, as the index notes them.
pub rows_sets : {report : List ℕ} {index : List Row} (first count : ℕ) → Indexed report index → first + count ≤ length (observed report)
    → map (λ (row : Row). row.present) (take count (drop first index)) ≡ map set_of (rows_from report first count)
unfolding set_of
rows_sets {report} {index} first count x h =
    let l : length (take count (drop first index)) ≡ count = simp (length-take, length-drop) (omega (arith, x.room)) in
    ext_get_or 0 (map (λ (row : Row). row.present) (take count (drop first index))) (map set_of (rows_from report first count))
    (length-map (take count (drop first index)) (λ (row : Row). row.present) ∙ (l ∙ sym (length-map (rows_from report first count) set_of ∙ rows_length report first count h)))
    (λ i k. at i (omega (arith, length-map (take count (drop first index)) (λ (row : Row). row.present))))
  where
    at : (i : ℕ) → i < count → get_or (map (λ (row : Row). row.present) (take count (drop first index))) i 0 ≡ get_or (map set_of (rows_from report first count)) i 0
    at i k =
        get_or-map (λ (row : Row). row.present) (take count (drop first index)) i (record { present = 0; starts = []; lengths = [] })
        ∙ (ap (λ (row : Row). row.present) (get_or-take count (drop first index) i _ k ∙ get_or-drop first index i _)
        ∙ ((x.noted (first + i) (omega arith)).set_is
        ∙ sym (get_or-map set_of (rows_from report first count) i [] ∙ ap set_of (row_at report first count i k))))

-- A list with a column, each an element.
columns_of_lem : (rows : List Observation) → AllRight rows → 0 < length rows → Columns (columns_of rows)
columns_of_lem [] r h = absurd (omega arith)
columns_of_lem (o ∷ os) r h =
    let f = first_column o os r.0 in
    record { some = omega (arith, ap (λ (l : List ℕ). length l) f.3); known = λ k i. columns_below (o ∷ os) _ (member_at (columns_of (o ∷ os)) k i) }
  where
    member_at : (l : List ℕ) (k : ℕ) → k < length l → member (get_or l k 0) l ≡ true
    member_at [] k h = absurd (omega arith)
    member_at (x ∷ l) zero h = rw (eq-eqb x x refl)
    member_at (x ∷ l) (suc k) h = or_second (eqb x (get_or l k 0)) (member (get_or l k 0) l) (member_at l k (omega arith))

module _ {report : List ℕ} {index : List Row} {before : List ℕ} {first count : ℕ} (asks : BlockAsks report index before first count) where
  -- There is room for the version line.
  pub version_room : length (line_of (version_line ∷ [])) ≤ length before
  unfolding block_text
  version_room =
      omega (arith, asks.room, length-append (line_of (version_line ∷ [])) (line_of (names_at (columns_of (rows_from report first count))) ++ data_lines (columns_of (rows_from report first count)) (rows_from report first count)))

  -- The columns that are listed are those of the rows.
  module _ {set : ℕ} {columns : List ℕ} (j : set ≡ joined 0 (map (λ (row : Row). row.present) (take (first + count - first) (drop first index)))) (l : columns ≡ columns_in set) where
    columns_are : columns ≡ columns_of (rows_from report first count)
    columns_are =
        let whole : first + count - first ≡ count = omega arith in
        l
        ∙ (ap columns_in (j ∙ ap (joined 0) (rw whole (rows_sets first count asks.indexed asks.inside)))
        ∙ columns_joined (rows_from report first count))

    known : Columns columns
    known =
        rw columns_are (columns_of_lem (rows_from report first count) (right_take count (drop first (observed report)) (right_drop first (observed report) (observed_right report)))
        (omega (arith, rows_length report first count asks.inside, asks.some)))

    module _ {after : List ℕ} {named : ℕ} (v : Wrote (line_of (version_line ∷ [])) before after named) where
      -- The version line is written.
      after_version : Writing (block_text (rows_from report first count)) before after named
          (line_of (names_at columns) ++ data_lines columns (rows_from report first count))
      unfolding block_text
      after_version = rw columns_are (write_first (line_of (version_line ∷ [])) _ asks.room v)

      -- The column line can be written.
      pub names_ask : Columns columns × (length (line_of (names_at columns)) ≤ length (take (length after - named) (drop named after)))
      names_ask = (known, write_fits (line_of (names_at columns)) _ after_version)

      pub names_inside : named + length (line_of (names_at columns)) ≤ length after
      names_inside = write_room (line_of (names_at columns)) _ after_version

      module _ {lent : List ℕ} {n : ℕ} (w : Wrote (line_of (names_at columns)) (take (length after - named) (drop named after)) lent n) where
        abbrev pub beyond : List ℕ
        beyond = take named after ++ (lent ++ drop (length after - named) (drop named after))

        -- The column line is written.
        after_names : Writing (block_text (rows_from report first count)) before beyond (named + n) (data_lines columns (rows_from report first count))
        after_names = write_next _ _ after_version w

        -- The data lines can be written.
        pub lines_ask : RowsAsk report index columns (take (length beyond - (named + n)) (drop (named + n) beyond)) first count
        lines_ask = record {
          indexed = asks.indexed;
          inside = asks.inside;
          columns_are = known;
          room = last_fits (data_lines columns (rows_from report first count)) after_names;
        }

        pub lines_inside : named + n + length (data_lines columns (rows_from report first count)) ≤ length beyond
        lines_inside = last_room (data_lines columns (rows_from report first count)) after_names

        -- They are written, and so is the block.
        pub block_written : {after-lines : List ℕ} {m : ℕ}
            → Wrote (data_lines columns (rows_from report first count)) (take (length beyond - (named + n)) (drop (named + n) beyond)) after-lines m
            → Wrote (block_text (rows_from report first count)) before
            (take (named + n) beyond ++ (after-lines ++ drop (length beyond - (named + n)) (drop (named + n) beyond))) (named + n + m)
        block_written = write_last _ after_names

-- One block after the other.

-- The first of the cuts: it has a row at least, no more than there are, and the others cut the rows after it.
-- No more rows may follow a row than there are.
follow_few : (m : ℕ) (rows : List Observation) → stretch mark_of m rows ≤ length rows
unfolding stretch
follow_few m [] = omega arith
follow_few m (o ∷ os) = bools (eqb (mark_of o) m) (λ e. rw e (omega (arith, follow_few m os))) (λ e. rw e (omega arith))

valid_first : (count : ℕ) (cuts : List ℕ) (rows : List Observation) → Valid (count ∷ cuts) rows
    → (0 < count) × (count ≤ length rows) × Valid cuts (drop count rows)
valid_first count cuts [] v = absurd v
valid_first zero cuts (o ∷ os) v = absurd v
valid_first (suc k) cuts (o ∷ os) v = (omega arith, omega (arith, v.0, follow_few (mark_of o) os), v.1)

-- The blocks of the first k cuts are written, which have the rows before `first`.
pub record Blocks (cuts : List ℕ) (rows : List Observation) (before after : List ℕ) (at first k : ℕ) : Type 0 where
  pub within : k ≤ length cuts
  pub inside : first ≤ length rows
  pub valid : Valid (drop k cuts) (drop first rows)
  pub writing : Writing (written cuts rows) before after at (written (drop k cuts) (drop first rows))

pub blocks_begin : {report : List ℕ} {index : List Row} {cuts before : List ℕ} → BlocksAsk report index cuts before
    → Blocks cuts (observed report) before before 0 0 0
blocks_begin {report} {index} {cuts} {before} asks = record {
  within = omega arith;
  inside = omega arith;
  valid = asks.valid;
  writing = write_begin (written cuts (observed report)) before asks.room;
}

module _ {cuts : List ℕ} {rows : List Observation} {before after : List ℕ} {at first k : ℕ} (b : Blocks cuts rows before after at first k) where
  -- All blocks are written.
  pub blocks_end : length cuts ≤ k → Wrote (written cuts rows) before after at
  unfolding written
  blocks_end h =
      let none : drop k cuts ≡ [] = drop_of_length-le cuts {i = k} h in
      write_end (rw none at b.writing)

  module _ (h : k < length cuts) {count : ℕ} (e : count ≡ get_or cuts k 0) where
    next_cut : drop k cuts ≡ count ∷ drop (k + 1) cuts
    next_cut = rw (add-one k, e) (drop-cons cuts k 0 h)

    next_valid : (0 < count) × (count ≤ length (drop first rows)) × Valid (drop (k + 1) cuts) (drop count (drop first rows))
    next_valid = valid_first count (drop (k + 1) cuts) (drop first rows) (rw next_cut at b.valid)

    -- The next block has its rows in the report.
    pub block_inside : first + count ≤ length rows
    block_inside = omega (arith, next_valid.1, length-drop first rows, b.inside)

    block_turn : Writing (written cuts rows) before after at (block_text (take count (drop first rows)) ++ written (drop (k + 1) cuts) (drop (first + count) rows))
    unfolding written
    block_turn = rw (← drop-drop count first rows) (rw next_cut at b.writing)

    -- There is room for it.
    pub block_room : at + length (block_text (take count (drop first rows))) ≤ length after
    block_room = write_room (block_text (take count (drop first rows))) _ block_turn

    -- It is written.
    pub blocks_next : {lent : List ℕ} {n : ℕ} → Wrote (block_text (take count (drop first rows))) (take (length after - at) (drop at after)) lent n
        → Blocks cuts rows before (take at after ++ (lent ++ drop (length after - at) (drop at after))) (at + n) (first + count) (k + 1)
    blocks_next p = record {
      within = omega arith;
      inside = block_inside;
      valid = rw (drop-drop count first rows) at next_valid.2;
      writing = write_next (block_text (take count (drop first rows))) _ block_turn p;
    }

    some_rows : 0 < count
    some_rows = next_valid.0

    block_fits : length (block_text (take count (drop first rows))) ≤ length (take (length after - at) (drop at after))
    block_fits = write_fits (block_text (take count (drop first rows))) _ block_turn

-- It can be written.
pub block_asks : {report : List ℕ} {index : List Row} {cuts before after : List ℕ} {at first k : ℕ} → BlocksAsk report index cuts before
    → Blocks cuts (observed report) before after at first k → k < length cuts → {count : ℕ} → count ≡ get_or cuts k 0
    → BlockAsks report index (take (length after - at) (drop at after)) first count
block_asks asks b h e = record { indexed = asks.indexed; some = some_rows b h e; inside = block_inside b h e; room = block_fits b h e }
