-- A written block reads back as its rows.
use Prim.Native.Nat.{ℕ, zero, suc, ◌≤◌, ◌<◌, ◌+◌}
use mathlib.Core.Path.{◌≡◌, refl, ap, sym, subst, ◌∙◌}
use mathlib.Core.Bool.{Bool, true, false, not, ◌||◌, true≢false, beq}
use mathlib.Core.List.{List, [], ◌∷◌, ◌++◌, append_assoc, append-nil}
use native.Mathlib.Omega.{arith}
use lib.Dec.{eqb, ltb}
use lib.ListN.{length, take, get_or, replicate, length-map, length-replicate, get_or-eq_default}
use lib.Seq.{get_or-set_other, get_or-set_same, ext_get_or}
use borrow.Author.Tests.{eq-eqb, ne_eqb, eqb-true, eqb-false, lt-ltb, ltb-true, ltb-false, not-true}
use Rattle.text.specs.Part.{same}
use Rattle.text.specs.Lines.{bar, line, lines, trim}
use Rattle.text.proofs.Bools.{bools}
use Rattle.text.proofs.Parts.{same_is}
use Rattle.std.specs.Prelude.{Ok}
use Rattle.element.specs.Table.{elements, name_of, column_order}
use Rattle.element.specs.Observation.{Observation, is_present, is_radar, holds_any}
use Rattle.report.specs.declared.state.Need.{Need}
use Rattle.report.specs.Report.{text_limit, row_limit, version_line, is_hash, next, row, member, columns_from, field_fault, fill, row_of, data_line, other, step, accepted, read_from, begin, read}
use Rattle.report.proofs.Join.{row_kind, read_within}
use Rattle.layout.specs.Written.{is_anywhere, passing, columns_of, barred, line_of, names_at, values_at, data_lines, block_text}
use Rattle.text.proofs.Table.{below}
use Rattle.text.proofs.Bools.{T_true}
use Rattle.element.proofs.Observations.{identified}
use Rattle.element.proofs.Names.{index_name, every_name}
use Rattle.element.proofs.Forms.{unhashed}
use Rattle.layout.proofs.ColumnLaws.{or_second, member_all, is_distinct, columns_below, columns_distinct, present_columns}
use Rattle.layout.proofs.FieldLaws.{is_clean, Cleans, none, one, fields_barred, barred_printable, lines_line_of}
use Rattle.report.proofs.Long.{row_long}
use Rattle.layout.proofs.Accepted.{Right, AllRight, put, put_length_lem, blank_at}

-- The column line.

-- Names are clean, have no blanks at their ends, and do not begin with `#`.
name_clean : (c : ℕ) → c < elements → is_clean (name_of c) ≡ true
unfolding is_clean
name_clean c h = every_name is_clean tt c h

name_trim : (c : ℕ) → c < elements → trim (name_of c) ≡ name_of c
unfolding same
name_trim c h = same_is _ _ (every_name (λ name. same (trim name) name) tt c h)

name_unhashed : (c : ℕ) → c < elements → get_or (name_of c) 0 0 ≡ 35 → ⊥
name_unhashed c h = eqb-false _ _ (not-true _ (every_name (λ name. not (eqb (get_or name 0 0) 35)) tt c h))

-- Every column is an element.
abbrev Known : List ℕ → Type 0
Known columns = (e : ℕ) → member e columns ≡ true → e < elements

-- So is the first.
known_first : (c : ℕ) (cs : List ℕ) → Known (c ∷ cs) → c < elements
known_first c cs h = h c (rw (eq-eqb c c refl))

-- The names of a column line are clean.
names_clean : (cs : List ℕ) → Known cs → Cleans (names_at cs)
names_clean [] h = none
names_clean (c ∷ cs) h = one (name_clean c (known_first c cs h)) (names_clean cs (λ e m. h e (or_second (eqb c e) (member e cs) m)))

-- Among two lists.
member_append : (e : ℕ) (a b : List ℕ) → member e (a ++ b) ≡ member e a || member e b
member_append e [] b = refl
member_append e (c ∷ a) b = bools (eqb c e) (λ q. rw q) (λ q. rw (q, member_append e a b))

-- Columns that stand once each, none of them seen, are read from their names.
columns_read : (seen cs : List ℕ) → is_distinct cs ≡ true → ((e : ℕ) → member e cs ≡ true → (e < elements) × (member e seen ≡ false))
    → columns_from seen (names_at cs) ≡ next (record { need = Need.Row; columns = seen ++ cs; radar = false })
unfolding columns_from
columns_read seen [] d h = rw append-nil
columns_read seen (c ∷ cs) d h =
    let here : (c < elements) × (member c seen ≡ false) = h c (rw (eq-eqb c c refl)) in
    bools (member c cs)
    (λ m. absurd (true≢false (sym (rw m at d))))
    (λ m. rw (name_trim c here.0, index_name c here.0, lt-ltb c elements here.0, here.1)
    (columns_read (seen ++ (c ∷ [])) cs (rw m at d) (fresh m) ∙ rw append_assoc))
  where
    fresh : member c cs ≡ false → (e : ℕ) → member e cs ≡ true → (e < elements) × (member e (seen ++ (c ∷ [])) ≡ false)
    fresh m e g =
        let i = h e (or_second (eqb c e) (member e cs) g) in
        bools (eqb c e)
        (λ q. let z : c ≡ e = eqb-true c e q in absurd (true≢false (sym g ∙ (rw z at m))))
        (λ q. (i.0, rw (member_append e seen (c ∷ []), i.1, q)))

-- A value that does not begin with `#` gives no line that does, also where it is empty and a bar follows.
start_unhashed : (v rest : List ℕ) → (get_or v 0 0 ≡ 35 → ⊥) → is_hash (v ++ (bar ∷ rest)) ≡ false
start_unhashed [] rest h = refl
start_unhashed (b ∷ t) rest h = ne_eqb b 35 h

unhashed_one : (v : List ℕ) → (get_or v 0 0 ≡ 35 → ⊥) → is_hash v ≡ false
unhashed_one [] h = refl
unhashed_one (b ∷ t) h = ne_eqb b 35 h

-- A line whose first field does not begin with `#` does not.
barred_unhashed : (v : List ℕ) (vs : List (List ℕ)) → (get_or v 0 0 ≡ 35 → ⊥) → is_hash (barred (v ∷ vs)) ≡ false
unfolding barred
barred_unhashed v [] h = unhashed_one v h
barred_unhashed v (w ∷ vs) h = start_unhashed v (barred (w ∷ vs)) h

-- The column line of a block names its columns.
step_names : (c : ℕ) (cs : List ℕ) → is_distinct (c ∷ cs) ≡ true → Known (c ∷ cs)
    → step (record { need = Need.Columns; columns = []; radar = false }) 0 (barred (names_at (c ∷ cs)))
    ≡ next (record { need = Need.Row; columns = c ∷ cs; radar = false })
unfolding step
step_names c cs d h =
    rw (
      barred_printable (names_at (c ∷ cs)) (names_clean (c ∷ cs) h),
      barred_unhashed (name_of c) (names_at cs) (name_unhashed c (known_first c cs h)),
      fields_barred (name_of c) (names_at cs) (names_clean (c ∷ cs) h),
    )
    (columns_read [] (c ∷ cs) d (λ e m. (h e m, refl)))

-- The version line opens it.
step_version : step begin 0 version_line ≡ next (record { need = Need.Columns; columns = []; radar = false })
unfolding step same
step_version = refl

-- The data lines.

-- What is present in an observation is among the columns.
abbrev pub Under : List ℕ → Observation → Type 0
Under columns o = (e : ℕ) → is_present (get_or o e []) ≡ true → member e columns ≡ true

-- What is present in each of the rows is.
abbrev pub AllUnder : List ℕ → List Observation → Type 0
AllUnder columns [] = Unit
AllUnder columns (o ∷ os) = Under columns o × AllUnder columns os

-- A value that is not present is empty.
pub absent_is : (v : List ℕ) → is_present v ≡ false → v ≡ []
absent_is [] h = refl
absent_is (b ∷ t) h = absurd (true≢false h)

-- What is present is an element.
present_below : (o : Observation) (e : ℕ) → length o ≡ elements → is_present (get_or o e []) ≡ true → e < elements
present_below o e l h =
    bools (ltb e elements)
    (λ a. ltb-true e elements a)
    (λ a.
    let z : get_or o e [] ≡ [] = get_or-eq_default o [] {n = e} (omega (arith, ltb-false e elements a)) in
    absurd (true≢false (sym (rw z at h))))

-- Where all that is present in the rows is among the columns, each row is under them.
pub all_under : (columns : List ℕ) (rows : List Observation) → AllRight rows
    → ((e : ℕ) → e < elements → is_anywhere rows e ≡ true → member e columns ≡ true) → AllUnder columns rows
unfolding is_anywhere
all_under columns [] r h = tt
all_under columns (o ∷ os) r h = (
  (λ e p. h e (present_below o e r.0.long p) (rw p)),
  all_under columns os r.1 (λ e b a. h e b (or_second (is_present (get_or o e [])) (is_anywhere os e) a)),
)

-- The rows of a block are under its columns.
pub block_under : (rows : List Observation) → AllRight rows → AllUnder (columns_of rows) rows
block_under rows r = all_under (columns_of rows) rows r (present_columns rows)

-- The values of a right observation are clean and without a fault.
values_clean : (o : Observation) → Right o → (cs : List ℕ) → Cleans (values_at cs o)
values_clean o r [] = none
values_clean o r (c ∷ cs) = one (r.values c).clean (values_clean o r cs)

values_fine : (o : Observation) → Right o → (cs : List ℕ) (p : ℕ) → field_fault p cs (values_at cs o) ≡ Ok tt
unfolding field_fault
values_fine o r [] p = refl
values_fine o r (c ∷ cs) p = rw ((r.values c).trimmed, (r.values c).fine) (values_fine o r cs (suc p))

-- Filled in from an observation's own values, each element has its value in the end, or had it, or has none.
fill_at : (o : Observation) → Right o → (cs : List ℕ) (x : Observation) (e : ℕ) → e < length x
    → (member e cs ≡ false → get_or x e [] ≡ get_or o e []) → (is_present (get_or o e []) ≡ false → get_or x e [] ≡ [])
    → get_or (fill cs (values_at cs o) x) e [] ≡ get_or o e []
unfolding fill
fill_at o r [] x e b h a = h refl
fill_at o r (c ∷ cs) x e b h a =
    let t : trim (get_or o c []) ≡ get_or o c [] = (r.values c).trimmed in
    rw t (fill_at o r cs (put x c (get_or o c [])) e (omega (arith, put_length_lem x c (get_or o c []))) (λ m. kept m) (λ q. still q))
  where
    kept : member e cs ≡ false → get_or (put x c (get_or o c [])) e [] ≡ get_or o e []
    kept m =
        bools (eqb c e)
        (λ q.
        let z : c ≡ e = eqb-true c e q in
        rw z (bools (is_present (get_or o e []))
        (λ p. rw p (get_or-set_same x e (get_or o e []) [] b))
        (λ p. rw p (a p ∙ sym (absent_is (get_or o e []) p)))))
        (λ q. bools (is_present (get_or o c []))
        (λ p. rw p (get_or-set_other x c e (get_or o c []) [] (λ z. eqb-false c e q (sym z)) ∙ h (rw (q, m))))
        (λ p. rw p (h (rw (q, m)))))

    still : is_present (get_or o e []) ≡ false → get_or (put x c (get_or o c [])) e [] ≡ []
    still s =
        bools (is_present (get_or o c []))
        (λ p. rw p (bools (eqb c e)
        (λ q. let z : c ≡ e = eqb-true c e q in absurd (true≢false (sym (rw z at p) ∙ s)))
        (λ q. get_or-set_other x c e (get_or o c []) [] (λ z. eqb-false c e q (sym z)) ∙ a s)))
        (λ p. rw p (a s))

-- The row filled in from an observation's own values is the observation.
row_filled : (columns : List ℕ) (o : Observation) → Right o → Under columns o → row_of columns (values_at columns o) ≡ o
row_filled columns o r u =
    let n : length (row_of columns (values_at columns o)) ≡ elements =
    row_long columns (values_at columns o) in
    ext_get_or [] (row_of columns (values_at columns o)) o (n ∙ sym r.long)
    (λ e b. fill_at o r columns (replicate elements []) e (omega (arith, b, n, length-replicate {A = List ℕ} elements []))
    (λ m. blank_at elements e ∙ sym (unseen e m)) (λ p. blank_at elements e))
  where
    unseen : (e : ℕ) → member e columns ≡ false → get_or o e [] ≡ []
    unseen e m =
        bools (is_present (get_or o e []))
        (λ p. absurd (true≢false (sym (u e p) ∙ m)))
        (λ p. absent_is (get_or o e []) p)

-- A data line of its values comes to it.
data_read : (c : ℕ) (cs : List ℕ) (k : ℕ) (o : Observation) → Right o → Under (c ∷ cs) o → k < row_limit
    → data_line (c ∷ cs) k (barred (values_at (c ∷ cs) o)) ≡ row o
unfolding data_line
data_read c cs k o r u h =
    let n : length (values_at (c ∷ cs) o) ≡ length (c ∷ cs) = length-map (c ∷ cs) (λ index. get_or o index []) in
    rw (
      lt-ltb k row_limit h,
      fields_barred (get_or o c []) (values_at cs o) (values_clean o r (c ∷ cs)),
      eq-eqb _ _ n,
      values_fine o r (c ∷ cs) 1,
      row_filled (c ∷ cs) o r u,
      r.sound,
    )

-- A data line of a block, where it may stand: its first column is one of elements 1 to 4, so it does not begin with `#`.
step_read : (need : Need) (c : ℕ) (cs : List ℕ) (radar : Bool) (k : ℕ) (o : Observation) → c < 4 → Right o
    → other need (c ∷ cs) radar k (barred (values_at (c ∷ cs) o)) ≡ row o
    → step (record { need = need; columns = c ∷ cs; radar = radar }) k (barred (values_at (c ∷ cs) o)) ≡ row o
unfolding step
step_read need c cs radar k o i r q =
    rw (
      barred_printable (values_at (c ∷ cs) o) (values_clean o r (c ∷ cs)),
      barred_unhashed (get_or o c []) (values_at cs o) (unhashed c i (get_or o c []) (r.values c).fine),
      q,
    )

-- Each of the rows is radar or none is.
abbrev pub AllOfKind : Bool → List Observation → Type 0
AllOfKind radar [] = Unit
AllOfKind radar (o ∷ os) = (is_radar o ≡ radar) × AllOfKind radar os

-- A test agrees with itself.
agrees : (a b : Bool) → a ≡ b → beq b a ≡ true
agrees a true e = rw e
agrees a false e = rw e

-- The data lines of a block read back as its rows, after rows of their kind.
rows_read : (c : ℕ) (cs : List ℕ) (radar : Bool) (rows : List Observation) (n k : ℕ) → c < 4 → AllRight rows → AllUnder (c ∷ cs) rows
    → AllOfKind radar rows → k + length rows ≤ row_limit
    → read_from (record { need = Need.Nothing; columns = c ∷ cs; radar = radar }) n k (lines (data_lines (c ∷ cs) rows)) ≡ accepted rows
unfolding read_from data_lines
rows_read c cs radar [] n k i r u a h = refl
rows_read c cs radar (o ∷ os) n k i r u a h =
    rw (
      lines_line_of (values_at (c ∷ cs) o) (data_lines (c ∷ cs) os) (barred_printable (values_at (c ∷ cs) o) (values_clean o r.0 (c ∷ cs))),
      step_read Need.Nothing c cs radar k o i r.0 (row_kind radar _ o (data_read c cs k o r.0 u.0 (omega arith)) (agrees _ _ a.0)),
      a.0,
      rows_read c cs radar os (suc n) (suc k) i r.1 u.1 a.1 (omega arith),
    )

-- Where one of the first few of a list passes, the first that passes is one of them.
passing_first : (p : ℕ → Bool) (n : ℕ) (cs : List ℕ) (e : ℕ) → p e ≡ true → member e (take n cs) ≡ true
    → (c : ℕ) × (ds : List ℕ) × (member c (take n cs) ≡ true) × (passing p cs ≡ c ∷ ds)
unfolding passing
passing_first p zero cs e h m = absurd (true≢false (sym m))
passing_first p (suc n) [] e h m = absurd (true≢false (sym m))
passing_first p (suc n) (c ∷ cs) e h m =
    bools (p c)
    (λ q. (c, passing p cs, rw (eq-eqb c c refl), rw q))
    (λ q. bools (eqb c e)
    (λ r. let z : c ≡ e = eqb-true c e r in absurd (true≢false (sym h ∙ (rw z at q))))
    (λ r.
    let i = passing_first p n cs e h (rw r at m) in
    (i.0, i.1, or_second (eqb c i.0) (member i.0 (take n cs)) i.2, rw q i.3)))

-- The element of identification that a right observation holds.
identified_at : (o : Observation) → Right o → (e : ℕ) × (e < 4) × (is_present (get_or o e []) ≡ true)
unfolding holds_any
identified_at o r =
    let h = identified o r.sound in
    bools (is_present (get_or o 0 [])) (λ a. (0, omega arith, a))
    (λ a. bools (is_present (get_or o 1 [])) (λ b. (1, omega arith, b))
    (λ b. bools (is_present (get_or o 2 [])) (λ c. (2, omega arith, c))
    (λ c. bools (is_present (get_or o 3 [])) (λ d. (3, omega arith, d))
    (λ d. absurd (true≢false (sym (rw (a, b, c, d) at h)))))))

-- The first column of a block is one of elements 1 to 4: every row holds one of them.
pub first_column : (o : Observation) (os : List Observation) → Right o → (c : ℕ) × (cs : List ℕ) × (c < 4) × (columns_of (o ∷ os) ≡ c ∷ cs)
unfolding columns_of is_anywhere
first_column o os r =
    let h = identified_at o r in
    let i = passing_first (is_anywhere (o ∷ os)) 4 column_order h.0 (rw h.2)
    (T_true _ (below (λ e. member e (take 4 column_order)) 4 tt h.0 h.1)) in
    (i.0, i.1, ltb-true _ _ (member_all (λ e. ltb e 4) (take 4 column_order) refl i.0 i.2), i.3)

-- The lines of a block.
block_lines : (c : ℕ) (cs : List ℕ) (o : Observation) (os : List Observation) → columns_of (o ∷ os) ≡ c ∷ cs → Known (c ∷ cs) → Right o
    → lines (block_text (o ∷ os))
    ≡ line version_line (line (barred (names_at (c ∷ cs))) (line (barred (values_at (c ∷ cs) o)) (lines (data_lines (c ∷ cs) os))))
unfolding block_text line_of barred data_lines
block_lines c cs o os q h r =
    ap (λ (columns : List ℕ). lines (line_of (version_line ∷ []) ++ (line_of (names_at columns) ++ data_lines columns (o ∷ os)))) q
    ∙ rw (
      lines_line_of (names_at (c ∷ cs)) (data_lines (c ∷ cs) (o ∷ os)) (barred_printable (names_at (c ∷ cs)) (names_clean (c ∷ cs) h)),
      lines_line_of (values_at (c ∷ cs) o) (data_lines (c ∷ cs) os) (barred_printable (values_at (c ∷ cs) o) (values_clean o r (c ∷ cs))),
    )

-- They read back, from the beginning of a text.
block_from : (c : ℕ) (cs : List ℕ) (o : Observation) (os : List Observation) → c < 4 → is_distinct (c ∷ cs) ≡ true
    → Known (c ∷ cs) → AllRight (o ∷ os) → AllUnder (c ∷ cs) (o ∷ os) → AllOfKind (is_radar o) os → length (o ∷ os) ≤ row_limit
    → read_from begin 1 0 (line version_line (line (barred (names_at (c ∷ cs))) (line (barred (values_at (c ∷ cs) o)) (lines (data_lines (c ∷ cs) os)))))
    ≡ accepted (o ∷ os)
unfolding read_from
block_from c cs o os i d b r u a few =
    rw (
      step_version,
      step_names c cs d b,
      step_read Need.Row c cs false 0 o i r.0 (data_read c cs 0 o r.0 u.0 (omega arith)),
      rows_read c cs (is_radar o) os 4 1 i r.1 u.1 a (omega arith),
    )

-- A written block of rows of one kind reads back as its rows.
pub block_reads : (o : Observation) (os : List Observation) → AllRight (o ∷ os) → AllOfKind (is_radar o) os → length (o ∷ os) ≤ row_limit
    → length (block_text (o ∷ os)) ≤ text_limit → read (block_text (o ∷ os)) ≡ accepted (o ∷ os)
block_reads o os r a few short =
    let f = first_column o os r.0 in
    let u : AllUnder (f.0 ∷ f.1) (o ∷ os) = subst (λ (columns : List ℕ). AllUnder columns (o ∷ os)) f.3 (block_under (o ∷ os) r) in
    let d : is_distinct (f.0 ∷ f.1) ≡ true = rw f.3 at (columns_distinct (o ∷ os)) in
    let b : Known (f.0 ∷ f.1) = rw f.3 at (columns_below (o ∷ os)) in
    read_within (block_text (o ∷ os)) (o ∷ os) short
    (rw (block_lines f.0 f.1 o os f.3 b r.0) (block_from f.0 f.1 o os f.2 d b r u a few))
