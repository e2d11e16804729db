-- No text is shorter than its observations written by some cuts: the cuts of its own blocks.
use Prim.Native.Nat.{ℕ, zero, suc, ◌≤◌, ◌<◌, ◌+◌}
use mathlib.Core.Path.{◌≡◌, refl, ap, sym, ◌∙◌}
use mathlib.Core.Bool.{Bool, true, false, true≢false, beq}
use mathlib.Core.List.{List, [], ◌∷◌, ◌++◌}
use native.Mathlib.Omega.{arith}
use lib.Dec.{eqb, ltb}
use lib.ListN.{length, take, drop, get_or, set, replicate, length-append}
use lib.Seq.{get_or-set_other, take-append_seam, drop-append_seam}
use borrow.Author.Tests.{eq-eqb, eqb-false, ltb-true}
use Rattle.text.specs.Part.{same}
use Rattle.text.specs.Lines.{line_feed, Lines, end, cut, line, lines, onto, fields, trim, printable}
use Rattle.text.proofs.Bools.{bools}
use Rattle.text.proofs.Parts.{same_is}
use Rattle.element.specs.Table.{elements, names, name_of, index_of, index_in}
use Rattle.element.specs.Observation.{Observation, is_present, is_radar, bit}
use Rattle.report.specs.declared.state.Need.{Need}
use Rattle.report.specs.Report.{version_line, is_hash, State, Step, next, row, bad, member, columns_from, fill, data_line, opened, other, step, accepted, at_end, after_row, after, read_from, begin, read}
use Rattle.report.proofs.Join.{bad≢next, bad≢row, refused≢accepted, more_accepted, read_accepted, data_next, kind_next, kind_row}
use Rattle.cuts.specs.Cuts.{stretch}
use Rattle.layout.specs.Written.{is_anywhere, columns_of, block_text, written, mark_of, Valid}
use Rattle.layout.specs.Cost.{size_of}
use Rattle.layout.proofs.BlockReads.{AllOfKind}
use Rattle.layout.proofs.ColumnLaws.{weigh, distinct_weighs, suc_weighs, one_weighs, columns_present, columns_distinct}
use Rattle.layout.proofs.FieldLaws.{trim_le, fields_size}
use Rattle.layout.proofs.Accepted.{AllRight, right_take, put, blank_at, Taken, step_taken, columns_row, opened_row, lines_right}
use Rattle.layout.proofs.BlockBytes.{rows_bytes, block_length_lem}

-- The bytes of a text's lines, with their LFs.
unfoldable size_lines : Lines → ℕ
size_lines end = 0
size_lines (cut l) = length l
size_lines (line l ls) = suc (length l) + size_lines ls

onto_size : (b : ℕ) (ls : Lines) → size_lines (onto b ls) ≡ suc (size_lines ls)
unfolding size_lines
onto_size b end = refl
onto_size b (cut l) = refl
onto_size b (line l ls) = omega arith

lines_size : (t : List ℕ) → size_lines (lines t) ≡ length t
unfolding size_lines
lines_size [] = refl
lines_size (b ∷ t) =
    let i = lines_size t in
    bools (eqb b line_feed) (λ e. rw e (omega arith)) (λ e. rw (e, onto_size b (lines t)) (omega arith))

-- The column line.

-- A name and one for what ends it.
abbrev pub column_bytes : ℕ → ℕ
column_bytes e = suc (length (name_of e))

-- A name that is found stands at its place.
name_at : (name : List ℕ) (table : List (List ℕ)) → index_in table name < length table → get_or table (index_in table name) [] ≡ name
unfolding index_in
name_at name [] h = absurd (omega arith)
name_at name (first ∷ rest) h =
    bools (same name first) (λ e. rw e (sym (same_is name first e))) (λ e. rw e (name_at name rest (omega (arith, rw e at h))))

name_found : (name : List ℕ) → ltb (index_of name) elements ≡ true → name_of (index_of name) ≡ name
unfolding index_of
name_found name h = name_at name names (ltb-true _ _ h)

-- One more at the end.
weigh_snoc : (w : ℕ → ℕ) (cs : List ℕ) (c : ℕ) → weigh w (cs ++ (c ∷ [])) ≡ weigh w cs + w c
unfolding weigh
weigh_snoc w [] c = omega arith
weigh_snoc w (x ∷ cs) c = omega (arith, weigh_snoc w cs c)

-- A column line has at least its names, and one for each.
columns_bytes : (fs : List (List ℕ)) (seen : List ℕ) (s : State) → columns_from seen fs ≡ next s
    → (s.need ≡ Need.Row) × (weigh column_bytes s.columns ≤ weigh column_bytes seen + (size_of fs + length fs))
unfolding columns_from size_of
columns_bytes [] seen s h =
    let q : record { need = Need.Row; columns = seen; radar = false } ≡ s = cc in
    (sym (ap (λ (x : State). x.need) q), rw (← q) (omega arith))
columns_bytes (f ∷ fs) seen s h =
    bools (ltb (index_of (trim f)) elements)
    (λ e. bools (member (index_of (trim f)) seen)
    (λ m. absurd (bad≢next (rw (e, m) at h)))
    (λ m.
    let i = columns_bytes fs (seen ++ (index_of (trim f) ∷ [])) s (rw (e, m) at h) in (
      i.0,
      omega (arith, i.1, weigh_snoc column_bytes seen (index_of (trim f)), ap (λ (x : List ℕ). length x) (name_found (trim f) e), trim_le f),
    )))
    (λ e. absurd (bad≢next (rw e at h)))

-- Data lines.

-- A value put among others adds no more than its bytes, and so do fields that fill a row.
set_size : (o : Observation) (c : ℕ) (v : List ℕ) → size_of (set o c v) ≤ size_of o + length v
unfolding size_of
set_size [] c v = omega arith
set_size (x ∷ o) zero v = omega arith
set_size (x ∷ o) (suc c) v = omega (arith, set_size o c v)

put_size : (o : Observation) (c : ℕ) (v : List ℕ) → size_of (put o c v) ≤ size_of o + length v
put_size o c v = bools (is_present v) (λ q. rw q (set_size o c v)) (λ q. rw q (omega arith))

fill_size : (cs : List ℕ) (fs : List (List ℕ)) (o : Observation) → size_of (fill cs fs o) ≤ size_of o + size_of fs
unfolding fill size_of
fill_size [] fs o = omega arith
fill_size (c ∷ cs) [] o = omega arith
fill_size (c ∷ cs) (f ∷ fs) o = omega (arith, fill_size cs fs (put o c (trim f)), put_size o c (trim f), trim_le f)

-- An element that no column names stays as it was.
fill_other : (cs : List ℕ) (fs : List (List ℕ)) (o : Observation) (e : ℕ) → member e cs ≡ false → get_or (fill cs fs o) e [] ≡ get_or o e []
unfolding fill
fill_other [] fs o e h = refl
fill_other (c ∷ cs) [] o e h = refl
fill_other (c ∷ cs) (f ∷ fs) o e h =
    bools (eqb c e)
    (λ q. absurd (true≢false (rw q at h)))
    (λ q. fill_other cs fs (put o c (trim f)) e (rw q at h)
    ∙ bools (is_present (trim f))
    (λ p. rw p (get_or-set_other o c e (trim f) [] (λ z. eqb-false c e q (sym z))))
    (λ p. rw p))

-- The row without values has no bytes.
blank_size : (n : ℕ) → size_of (replicate n []) ≡ 0
unfolding size_of
blank_size zero = refl
blank_size (suc n) = omega (arith, blank_size n)

-- What is present in an observation is among its line's columns.
taken_under : (columns : List ℕ) (k : ℕ) (l : List ℕ) (o : Observation) → Taken columns k l o → (e : ℕ) → is_present (get_or o e []) ≡ true
    → member e columns ≡ true
taken_under columns k l o t e p =
    bools (member e columns)
    (λ m. m)
    (λ m.
    let z : get_or o e [] ≡ [] = rw t.is at (fill_other columns (fields l) (replicate elements []) e m ∙ blank_at elements e) in
    absurd (true≢false (sym (rw z at p))))

-- Its line has at least its values, and one for each column.
taken_bytes : (columns : List ℕ) (k : ℕ) (l : List ℕ) (o : Observation) → Taken columns k l o → size_of o + length columns ≤ suc (length l)
taken_bytes columns k l o t =
    omega (
      arith,
      ap (λ (x : Observation). size_of x) t.is,
      fill_size columns (fields l) (replicate elements []),
      blank_size elements,
      fields_size l,
      t.full,
    )

-- What a line that is taken costs, by what the block needs.

-- A block begins: its version line.
abbrev Opens : List ℕ → State → Type 0
Opens l t = (length l ≡ 14) × (t ≡ record { need = Need.Columns; columns = []; radar = false })

-- A line that comes to no observation: a version line where a block may begin, or a column line with at least the bytes of its names.
abbrev Next : Need → List ℕ → State → Type 0
Next Need.Version l t = Opens l t
Next Need.Columns l t = (t.need ≡ Need.Row) × (weigh column_bytes t.columns ≤ suc (length l))
Next Need.Row l t = ⊥
Next Need.Nothing l t = Opens l t

opened_next : (need : Need) (l : List ℕ) (t : State) → length l ≡ 14 → opened need ≡ next t → Next need l t
opened_next Need.Version l t n h = (n, cc)
opened_next Need.Columns l t n h = absurd (bad≢next h)
opened_next Need.Row l t n h = absurd (bad≢next h)
opened_next Need.Nothing l t n h = (n, cc)

other_next : (need : Need) (columns : List ℕ) (radar : Bool) (k : ℕ) (l : List ℕ) (t : State) → other need columns radar k l ≡ next t → Next need l t
unfolding weigh
other_next Need.Version columns radar k l t h = absurd (bad≢next h)
other_next Need.Columns columns radar k l t h = let i = columns_bytes (fields l) [] t h in (i.0, omega (arith, i.1, fields_size l))
other_next Need.Row columns radar k l t h = absurd (data_next columns k l t h)
other_next Need.Nothing columns radar k l t h = absurd (kind_next radar columns k l t h)

step_next : (s : State) (k : ℕ) (l : List ℕ) (t : State) → step s k l ≡ next t → Next s.need l t
unfolding step
step_next s k l t h =
    bools (printable l)
    (λ a. bools (is_hash l)
    (λ b. bools (same l version_line)
    (λ c. opened_next s.need l t (ap (λ (x : List ℕ). length x) (same_is l version_line c)) (rw (a, b, c) at h))
    (λ c. absurd (bad≢next (rw (a, b, c) at h))))
    (λ b. other_next s.need s.columns s.radar k l t (rw (a, b) at h)))
    (λ a. absurd (bad≢next (rw a at h)))

-- An observation stands only after a column line, and after rows of its kind.
abbrev MayStand : Need → Bool → Observation → Type 0
MayStand Need.Version radar o = ⊥
MayStand Need.Columns radar o = ⊥
MayStand Need.Row radar o = Unit
MayStand Need.Nothing radar o = is_radar o ≡ radar

-- Tests that agree are equal.
agree_is : (a b : Bool) → beq b a ≡ true → a ≡ b
agree_is true true e = refl
agree_is true false e = absurd (true≢false (sym e))
agree_is false true e = absurd (true≢false (sym e))
agree_is false false e = refl

step_row : (s : State) (k : ℕ) (l : List ℕ) (o : Observation) → step s k l ≡ row o → MayStand s.need s.radar o
unfolding step
step_row s k l o h =
    bools (printable l)
    (λ a. bools (is_hash l)
    (λ b. bools (same l version_line)
    (λ c. absurd (opened_row s.need o (rw (a, b, c) at h)))
    (λ c. absurd (bad≢row (rw (a, b, c) at h))))
    (λ b. other_row s.need (rw (a, b) at h)))
    (λ a. absurd (bad≢row (rw a at h)))
  where
    other_row : (need : Need) → other need s.columns s.radar k l ≡ row o → MayStand need s.radar o
    other_row Need.Version h = bad≢row h
    other_row Need.Columns h = columns_row (fields l) [] o h
    other_row Need.Row h = tt
    other_row Need.Nothing h = agree_is (is_radar o) s.radar (kind_row s.radar (data_line s.columns k l) o h).1

-- Cuts that write observations in no more bytes than some.
pub record Cutting (L : List Observation) (size : ℕ) : Type 0 where
  pub cuts : List ℕ
  pub valid : Valid cuts L
  pub within : length (written cuts L) ≤ size

-- The same of observations that begin in a block under columns, with rows that are radar or not: its rows, and cuts of the others.
pub record Begun (columns : List ℕ) (radar : Bool) (L : List Observation) (size : ℕ) : Type 0 where
  pub rows : List Observation
  pub rest : List Observation
  pub is : L ≡ rows ++ rest
  pub kind : AllOfKind radar rows
  pub under : (e : ℕ) → is_anywhere rows e ≡ true → member e columns ≡ true
  pub cuts : List ℕ
  pub valid : Valid cuts rest
  pub within : rows_bytes (length columns) rows + length (written cuts rest) ≤ size

-- More columns are no fewer bytes.
rows_mono : (m n : ℕ) (rows : List Observation) → m ≤ n → rows_bytes m rows ≤ rows_bytes n rows
unfolding rows_bytes
rows_mono m n [] h = omega arith
rows_mono m n (o ∷ os) h = omega (arith, rows_mono m n os h)

-- A written block has no more bytes than its rows under any columns.
pub block_least : (o : Observation) (os : List Observation) (columns : List ℕ) → AllRight (o ∷ os)
    → ((e : ℕ) → is_anywhere (o ∷ os) e ≡ true → member e columns ≡ true)
    → length (block_text (o ∷ os)) ≤ 15 + weigh column_bytes columns + rows_bytes (length columns) (o ∷ os)
block_least o os columns r u =
    let own : List ℕ = columns_of (o ∷ os) in
    let among : (e : ℕ) → member e own ≡ true → member e columns ≡ true = λ e m. u e (columns_present (o ∷ os) e m) in
    let n = distinct_weighs (λ c. 1) own columns (columns_distinct (o ∷ os)) among in
    let few : length own ≤ length columns = omega (arith, n, one_weighs own, one_weighs columns) in
    omega (
      arith,
      block_length_lem o os r,
      distinct_weighs column_bytes own columns (columns_distinct (o ∷ os)) among,
      suc_weighs (λ e. length (name_of e)) own,
      rows_mono (length own) (length columns) (o ∷ os) few,
    )

-- Rows of one kind may follow each other in a block.
kind_follows : (radar : Bool) (os rest : List Observation) → AllOfKind radar os → length os ≤ stretch mark_of (bit radar) (os ++ rest)
unfolding stretch
kind_follows radar [] rest h = omega arith
kind_follows radar (o ∷ os) rest h = rw (ap bit h.0, eq-eqb (bit radar) (bit radar) refl) (omega (arith, kind_follows radar os rest h.1))

-- A block that a text opens is a cut.
opened_cutting : (columns : List ℕ) (radar : Bool) (L : List Observation) (size : ℕ) → AllRight L → (b : Begun columns radar L size)
    → 0 < length b.rows → Cutting L (15 + weigh column_bytes columns + size)
unfolding written
opened_cutting columns radar L size r b p = go b.rows p b.is b.kind b.under b.within
  where
    go : (rows : List Observation) → 0 < length rows → L ≡ rows ++ b.rest → AllOfKind radar rows
        → ((e : ℕ) → is_anywhere rows e ≡ true → member e columns ≡ true)
        → rows_bytes (length columns) rows + length (written b.cuts b.rest) ≤ size → Cutting L (15 + weigh column_bytes columns + size)
    go [] p q k u w = absurd (omega arith)
    go (o ∷ os) p q k u w =
        let t : take (length os) (os ++ b.rest) ≡ os = take-append_seam os b.rest in
        let d : drop (length os) (os ++ b.rest) ≡ b.rest = drop-append_seam os b.rest in
        let a : AllRight (o ∷ os) = rw t at (right_take (suc (length os)) (o ∷ (os ++ b.rest)) (rw q at r)) in
        rw q (record {
          cuts = suc (length os) ∷ b.cuts;
          valid = (rw (ap bit k.0) (kind_follows radar os b.rest k.1), rw d b.valid);
          within =
              rw (t, d) (omega (
                arith,
                length-append (block_text (o ∷ os)) (written b.cuts b.rest),
                block_least o os columns a u,
              ));
        })

-- What is left of a text, by what the block needs: cuts that write its observations in no more bytes.
abbrev Low : Need → List ℕ → Bool → List Observation → ℕ → Type 0
Low Need.Version columns radar L size = Cutting L size
Low Need.Columns columns radar L size =
    (named : List ℕ) × (kind : Bool) × (z : ℕ) × (b : Begun named kind L z) × (0 < length b.rows) × (weigh column_bytes named + z ≤ size)
Low Need.Row columns radar L size = (kind : Bool) × (b : Begun columns kind L size) × (0 < length b.rows)
Low Need.Nothing columns radar L size = Begun columns radar L size

-- Within more bytes too.
wider : (L : List Observation) (y z : ℕ) → Cutting L y → y ≤ z → Cutting L z
wider L y z c h = record { cuts = c.cuts; valid = c.valid; within = omega (arith, c.within) }

-- Cuts of all observations, as of a block of which no row is left.
no_rows : (columns : List ℕ) (radar : Bool) (L : List Observation) (size : ℕ) → Cutting L size → Begun columns radar L size
unfolding is_anywhere rows_bytes
no_rows columns radar L size c = record {
  rows = [];
  rest = L;
  is = refl;
  kind = tt;
  under = λ e a. absurd (true≢false (sym a));
  cuts = c.cuts;
  valid = c.valid;
  within = omega (arith, c.within);
}

-- Nothing is written in no bytes.
nothing_left : (L : List Observation) → L ≡ [] → Cutting L 0
unfolding written
nothing_left L q = rw q (record { cuts = []; valid = tt; within = omega arith })

low_end : (need : Need) (columns : List ℕ) (radar : Bool) (n : ℕ) (L : List Observation) → at_end need n ≡ accepted L → Low need columns radar L 0
low_end Need.Version columns radar n L h = nothing_left L cc
low_end Need.Columns columns radar n L h = absurd (refused≢accepted h)
low_end Need.Row columns radar n L h = absurd (refused≢accepted h)
low_end Need.Nothing columns radar n L h = no_rows columns radar L 0 (nothing_left L cc)

-- A version line before a block.
low_opens : (l : List ℕ) (t : State) (L : List Observation) (size : ℕ) → AllRight L → Opens l t → Low t.need t.columns t.radar L size
    → Cutting L (suc (length l) + size)
low_opens l t L size r o low =
    let b : Low Need.Columns [] false L size = rw o.1 at low in
    wider L (15 + weigh column_bytes b.0 + b.2) (suc (length l) + size) (opened_cutting b.0 b.1 L b.2 r b.3 b.4) (omega (arith, o.0, b.5))

-- Any line before the others that comes to no observation.
low_next : (need : Need) (columns : List ℕ) (radar : Bool) (l : List ℕ) (t : State) (L : List Observation) (size : ℕ) → AllRight L → Next need l t
    → Low t.need t.columns t.radar L size → Low need columns radar L (suc (length l) + size)
low_next Need.Version columns radar l t L size r x low = low_opens l t L size r x low
low_next Need.Columns columns radar l t L size r x low =
    let b : Low Need.Row t.columns t.radar L size = rw x.0 at low in (t.columns, b.0, size, b.1, b.2, omega (arith, x.1))
low_next Need.Row columns radar l t L size r x low = absurd x
low_next Need.Nothing columns radar l t L size r x low = no_rows columns radar L (suc (length l) + size) (low_opens l t L size r x low)

-- A data line before the others of its block.
low_row : (columns : List ℕ) (radar : Bool) (k : ℕ) (l : List ℕ) (o : Observation) (L M : List Observation) (size : ℕ) → is_radar o ≡ radar
    → Taken columns k l o → L ≡ o ∷ M → Begun columns radar M size → (b : Begun columns radar L (suc (length l) + size)) × (0 < length b.rows)
unfolding is_anywhere rows_bytes
low_row columns radar k l o L M size kind_is t q b = (
  record {
    rows = o ∷ b.rows;
    rest = b.rest;
    is = q ∙ ap (λ (x : List Observation). o ∷ x) b.is;
    kind = (kind_is, b.kind);
    under = λ e a. bools (is_present (get_or o e [])) (λ p. taken_under columns k l o t e p) (λ p. b.under e (rw p at a));
    cuts = b.cuts;
    valid = b.valid;
    within = omega (arith, taken_bytes columns k l o t, b.within);
  },
  omega arith,
)

-- The same by what the block needs.
low_rows : (need : Need) (columns : List ℕ) (radar : Bool) (k : ℕ) (l : List ℕ) (o : Observation) (L M : List Observation) (size : ℕ)
    → MayStand need radar o → Taken columns k l o → L ≡ o ∷ M → Begun columns (is_radar o) M size → Low need columns radar L (suc (length l) + size)
low_rows Need.Version columns radar k l o L M size c t q b = absurd c
low_rows Need.Columns columns radar k l o L M size c t q b = absurd c
low_rows Need.Row columns radar k l o L M size c t q b = let r = low_row columns (is_radar o) k l o L M size refl t q b in (is_radar o, r.0, r.1)
low_rows Need.Nothing columns radar k l o L M size c t q b = (low_row columns radar k l o L M size c t q (rw c at b)).0

-- What is left of an accepted text, line by line.
low : (ls : Lines) (s : State) (n k : ℕ) (L : List Observation) → read_from s n k ls ≡ accepted L
    → Low s.need s.columns s.radar L (size_lines ls)
unfolding read_from size_lines
low end s n k L h = low_end s.need s.columns s.radar n L h
low (cut l) s n k L h = absurd (refused≢accepted h)
low (line l ls) s n k L h = by_step (step s k l) refl (λ t j M e. low ls t (suc n) j M e) h
  where
    by_step : (x : Step) → step s k l ≡ x
        → ((t : State) (j : ℕ) (M : List Observation) → read_from t (suc n) j ls ≡ accepted M
        → Low t.need t.columns t.radar M (size_lines ls))
        → after x n s k (λ t j. read_from t (suc n) j ls) ≡ accepted L
        → Low s.need s.columns s.radar L (suc (length l) + size_lines ls)
    by_step (next t) e ih h =
        low_next s.need s.columns s.radar l t L (size_lines ls) (lines_right ls t (suc n) k L h).0 (step_next s k l t e) (ih t k L h)
    by_step (row o) e ih h =
        let r = more_accepted o (read_from (after_row o s) (suc n) (suc k) ls) L h in
        low_rows s.need s.columns s.radar k l o L r.0 (size_lines ls) (step_row s k l o e) (step_taken s k l o e).1 r.2
        (ih (after_row o s) (suc k) r.0 r.1)
    by_step (bad kind p) e ih h = absurd (refused≢accepted h)

-- Whatever text reads as the observations, some cuts write them in no more bytes.
pub no_shorter : (t : List ℕ) (L : List Observation) → read t ≡ accepted L → Cutting L (length t)
no_shorter t L h =
    wider L (size_lines (lines t)) (length t) (low (lines t) begin 1 0 L (read_accepted t L h).1) (omega (arith, lines_size t))
