-- Laws of a data line: its marks, its entries in a row of the index, and one law for each end and for the turn of the loop over its fields.
use Prim.Native.Nat.{ℕ, zero, suc, ◌≤◌, ◌<◌, ◌+◌, ◌-◌, ◌*◌, ◌^◌, ◌%◌}
use mathlib.Core.Path.{◌≡◌, refl, ap, sym, ◌∙◌}
use mathlib.Core.List.{List, [], ◌∷◌}
use mathlib.Core.Bool.{Bool, true, false, cond, true≢false, beq}
use lib.Dec.{eqb}
use lib.ListN.{length, take, drop, get_or, set, length-set, length-take, drop_of_length-le, replicate}
use lib.Seq.{get_or-set_same, get_or-set_other, drop-cons}
use borrow.Author.Tests.{eq-eqb, ne_eqb, eqb-true, eqb-false, le-ltb, lt-ltb}
use native.Mathlib.Omega.{arith}
use lib.Pow.{pow-lt}
use native.Mathlib.Nat.{one-mul, mod-eq_of_lt}
use native.Mathlib.Numerals.{add-one}
use Rattle.text.specs.Lines.{fields, trim, leading_blanks, field_from, FieldAt}
use Rattle.text.specs.Part.{same}
use Rattle.text.specs.Bytes.{bytes}
use Rattle.text.proofs.Bools.{bools}
use Rattle.text.proofs.LineLaws.{part_of_part}
use Rattle.std.specs.Prelude.{Option, Some, None, Result, Ok, Err, unwrap_or, ◌==◌}
use Rattle.refusal.specs.Paper.{at}
use Rattle.refusal.specs.declared.Kind.{Kind}
use Rattle.refusal.specs.declared.Kind.TheVariants.{TooManyRows, FieldCountDiffers, KindsMixed}
use Rattle.refusal.specs.declared.Fault.{Fault}
use Rattle.element.specs.Table.{elements}
use Rattle.element.specs.Form.{fault_of}
use Rattle.element.specs.Observation.{Observation, is_present, set_of, is_wgs84, is_earth, is_radar, is_radar_set, observation_fault, set_fault}
use Rattle.element.proofs.Sets.{set_mark, set_fault_lem, set_radar}
use Rattle.report.specs.Report.{Step, row, bad, field_fault, fill, row_of, data_line, row_limit}
use Rattle.report.specs.Starts.{fill_starts, starts_of}
use Rattle.report.specs.Index.{Shows}
use Rattle.report.specs.declared.index.Row.{Row}
use Rattle.report.specs.Inner.{between, marks_of, mark_on, after_rows, kind_by, held_by, noted_in, LineIn, FieldsGood, FieldsAre, RowCase, RowIs}
use Rattle.report.specs.declared.row.Marks.{Marks}
use Rattle.report.proofs.FieldLaws.{Left, Split, split}

-- ---- marks

pub present_none : (v : List ℕ) → true ≡ (length v == 0) → is_present v ≡ false
present_none [] e = refl
present_none (b ∷ v) e = absurd (let z : suc (length v) ≡ 0 = eqb-true (suc (length v)) 0 (sym e) in omega arith)

pub present_some : (v : List ℕ) → false ≡ (length v == 0) → is_present v ≡ true
present_some [] e = absurd (true≢false (sym e))
present_some (b ∷ v) e = refl

-- One moved up by an element's index.
pub shifted : (c : ℕ) → c < elements → 1 * 2 ^ c % 18446744073709551616 ≡ 2 ^ c
shifted c h = ap (λ (n : ℕ). n % 18446744073709551616) (one-mul (2 ^ c)) ∙ mod-eq_of_lt (pow-lt {i = c} {j = 64} (omega arith))

-- A value put where it belongs, or nothing.
abbrev put : Observation → ℕ → List ℕ → Observation
put o c v = cond (is_present v) (set o c v) o

put_length_lem : (o : Observation) (c : ℕ) (v : List ℕ) → length (put o c v) ≡ length o
put_length_lem o c v = bools (is_present v) (λ e. rw e (length-set o c v)) (λ e. rw e)

set_at : (o : Observation) (c e : ℕ) (v : List ℕ) → c < length o → get_or (set o c v) e [] ≡ cond (eqb c e) v (get_or o e [])
set_at o c e v h =
    bools (eqb c e)
    (λ q. let p : c ≡ e = eqb-true c e q in rw q (ap (λ (x : ℕ). get_or (set o c v) x []) (sym p) ∙ get_or-set_same o c v [] h))
    (λ q. rw q (get_or-set_other o c e v [] (λ z. eqb-false c e q (sym z))))

same_put : (o : Observation) (c e : ℕ) (v word : List ℕ) → c < length o
    → same (get_or (set o c v) e []) word ≡ cond (eqb c e) (same v word) (same (get_or o e []) word)
same_put o c e v word h = bools (eqb c e) (λ q. rw (set_at o c e v h, q)) (λ q. rw (set_at o c e v h, q))

pub mark_on_lem : (o : Observation) (m : Marks) (c : ℕ) (v : List ℕ) → c < length o → m ≡ marks_of o → mark_on m c v ≡ marks_of (put o c v)
unfolding mark_on is_wgs84 is_earth
mark_on_lem o m c v h e =
    bools (is_present v)
    (λ p. rw (e, p, set_mark o c v h p, same_put o c 8 v (bytes "WGS84") h, same_put o c 9 v (bytes "399") h))
    (λ p. rw (e, p))

-- ---- entries of a row

-- A value that is noted is shown, and the others stay.
shows_set : (t st ln : List ℕ) (c p : ℕ) (o : Observation) (at : List ℕ) (v : List ℕ) → c < elements → length o ≡ elements → length at ≡ elements
    → length st ≡ elements → length ln ≡ elements → p + length v ≤ length t → take (length v) (drop p t) ≡ v
    → Shows t st ln o at → Shows t (set st c p) (set ln c (length v)) (set o c v) (set at c p)
shows_set t st ln c p o at v h wide wide' hs hl i e s x hx g =
    bools (eqb c x)
    (λ q.
    let z : c ≡ x = eqb-true c x q in
    let ps : get_or (set st c p) x 0 ≡ p = rw (← z) (get_or-set_same st c p 0 (omega arith)) in
    let pl : get_or (set ln c (length v)) x 0 ≡ length v = rw (← z) (get_or-set_same ln c (length v) 0 (omega arith)) in
    let pa : get_or (set at c p) x 0 ≡ p = rw (← z) (get_or-set_same at c p 0 (omega arith)) in
    let po : get_or (set o c v) x [] ≡ v = rw (← z) (get_or-set_same o c v [] (omega arith)) in
    rw (po, pa) (record { start_is = ps; length_is = pl; inside = i; holds = e }))
    (λ q.
    let z : x ≡ c → ⊥ = λ y. eqb-false c x q (sym y) in
    let ps : get_or (set st c p) x 0 ≡ get_or st x 0 = get_or-set_other st c x p 0 z in
    let pl : get_or (set ln c (length v)) x 0 ≡ get_or ln x 0 = get_or-set_other ln c x (length v) 0 z in
    let pa : get_or (set at c p) x 0 ≡ get_or at x 0 = get_or-set_other at c x p 0 z in
    let po : get_or (set o c v) x [] ≡ get_or o x [] = get_or-set_other o c x v [] z in
    let y = s x hx (rw po at g) in
    rw (po, pa) (record { start_is = ps ∙ y.start_is; length_is = pl ∙ y.length_is; inside = y.inside; holds = y.holds }))

length_zero : (v : List ℕ) → eqb (length v) 0 ≡ cond (is_present v) false true
length_zero [] = refl
length_zero (b ∷ v) = ne_eqb (suc (length v)) 0 (λ z. omega arith)

-- The same for any value: an absent one changes nothing.
noted_on : (t : List ℕ) (x y : Row) (c p n : ℕ) (o : Observation) (at : List ℕ) (v : List ℕ) → c < elements → length o ≡ elements → length at ≡ elements
    → length x.starts ≡ elements → length x.lengths ≡ elements → p + length v ≤ length t → take (length v) (drop p t) ≡ v → n ≡ length v
    → y ≡ noted_in x c p n → Shows t x.starts x.lengths o at
    → Shows t y.starts y.lengths (put o c v) (cond (is_present v) (set at c p) at)
noted_on t x y c p n o at v h wide wide' hs hl i e len noted s =
    bools (is_present v)
    (λ q.
    let z : eqb n 0 ≡ false = rw len (length_zero v ∙ rw q) in
    let w : y ≡ record { present = x.present; starts = set x.starts c p; lengths = set x.lengths c (length v) } = noted ∙ rw (z, len) in
    rw (q, w) (shows_set t x.starts x.lengths c p o at v h wide wide' hs hl i e s))
    (λ q.
    let z : eqb n 0 ≡ true = rw len (length_zero v ∙ rw q) in
    let w : y ≡ x = noted ∙ rw z in
    rw (q, w) s)

-- A row's lists keep their lengths.
long_on : (x y : Row) (c p n : ℕ) → y ≡ noted_in x c p n → (length y.starts ≡ length x.starts) × (length y.lengths ≡ length x.lengths)
long_on x y c p n e =
    bools (eqb n 0)
    (λ q. let z : y ≡ x = e ∙ rw q in (ap (λ (r : Row). length r.starts) z, ap (λ (r : Row). length r.lengths) z))
    (λ q.
    let z : y ≡ record { present = x.present; starts = set x.starts c p; lengths = set x.lengths c n } = e ∙ rw q in
    (ap (λ (r : Row). length r.starts) z ∙ length-set x.starts c p, ap (λ (r : Row). length r.lengths) z ∙ length-set x.lengths c n))

-- ---- the loop over the fields

-- The observation so far and where its values start; what is left of the fields comes to the same.
pub record Filling (t columns : List ℕ) (noted : Row) (from till a k : ℕ) (m : Marks) : Type 0 where
  pub left : List (List ℕ)
  pub count : k + length left ≡ length columns
  pub lies : Left (between t from till) a left
  pub starts_long : length noted.starts ≡ elements
  pub lengths_long : length noted.lengths ≡ elements
  pub sofar : Observation
  pub wide : length sofar ≡ elements
  pub at : List ℕ
  pub at_wide : length at ≡ elements
  pub marks : m ≡ marks_of sofar
  pub shows : Shows t noted.starts noted.lengths sofar at
  pub faults : field_fault 1 columns (fields (between t from till)) ≡ field_fault (suc k) (drop k columns) left
  pub rest : row_of columns (fields (between t from till)) ≡ fill (drop k columns) left sofar
  pub places : starts_of columns (fields (between t from till)) from ≡ fill_starts (drop k columns) left (from + a) at

blank_at : (n e : ℕ) → ◌≡◌ {A = List ℕ} (get_or (replicate n []) e []) []
blank_at zero e = refl
blank_at (suc n) zero = refl
blank_at (suc n) (suc e) = blank_at n e

-- The marks where no value was passed.
pub none_yet : (m : Marks) → (m.present ≡ 0) × ((m.wgs84 ≡ false) × (m.earth ≡ false)) → m ≡ record { present = 0; wgs84 = false; earth = false }
none_yet m h =
    ap (λ (p : ℕ). record { present = p; wgs84 = m.wgs84; earth = m.earth }) h.0
    ∙ (ap (λ (w : Bool). record { present = 0; wgs84 = w; earth = m.earth }) h.1.0 ∙ ap (λ (e : Bool). record { present = 0; wgs84 = false; earth = e }) h.1.1)

blank_marks : (m : Marks) → m ≡ record { present = 0; wgs84 = false; earth = false } → m ≡ marks_of (replicate elements [])
unfolding is_wgs84 is_earth same set_of
blank_marks m e = e

pub fill_start : (t columns : List ℕ) (noted : Row) (from till : ℕ) (m : Marks) → length (fields (between t from till)) ≡ length columns
    → length noted.starts ≡ elements → length noted.lengths ≡ elements
    → m ≡ record { present = 0; wgs84 = false; earth = false } → Filling t columns noted from till 0 0 m
fill_start t columns noted from till m c hs hl e = record {
  left = fields (between t from till);
  count = omega (arith, c);
  lies = λ h. (omega arith, refl);
  starts_long = hs;
  lengths_long = hl;
  sofar = replicate elements [];
  wide = refl;
  at = replicate elements 0;
  at_wide = refl;
  marks = blank_marks m e;
  shows = λ x h g. absurd (true≢false (sym (rw (blank_at elements x) at g)));
  faults = refl;
  rest = refl;
  places = ap (λ (x : ℕ). fill_starts columns (fields (between t from till)) x (replicate elements 0)) (add_none from);
}
  where
    add_none : (n : ℕ) → n ≡ n + 0
    add_none n = omega arith

module _ {t columns : List ℕ} {noted : Row} {from till a k : ℕ} {m : Marks} (s : Filling t columns noted from till a k m) where
  module _ {start size end : ℕ} (f : FieldAt (between t from till) a start size end) (h : k < length columns) where
    lies : (a ≤ length (between t from till)) × (s.left ≡ fields (drop a (between t from till)))
    lies = s.lies (omega (arith, s.count))

    parted : Split (between t from till) a end (fields (drop a (between t from till)))
    parted = split f lies.0

    left_is : s.left ≡ field_from (between t from till) a ∷ parted.others
    left_is = lies.1 ∙ parted.is

    value : List ℕ
    value = trim (field_from (between t from till) a)

    value_is : take (start + size - start) (drop start (between t from till)) ≡ value
    unfolding value
    value_is = let c : start + size - start ≡ size = omega arith in rw c f.value

    pub field_bad : (kind : Kind) → Err kind ≡ fault_of (get_or columns k 0) (take (start + size - start) (drop start (between t from till)))
        → field_fault 1 columns (fields (between t from till)) ≡ Err (at kind (k + 1))
    unfolding field_fault value
    field_bad kind e =
        let e' = rw value_is at e in
        s.faults ∙ rw (drop-cons columns k 0 h, left_is, ← e', add-one)

    pub fields_inside : start + size ≤ till - from
    fields_inside = omega (arith, f.within, f.fits lies.0, length-take (till - from) (drop from t))

    -- The value is right, its marks are put on and it is noted.
    module _ (lie : LineIn t from till (length columns)) (small : get_or columns k 0 < elements)
        (fine : Ok tt ≡ fault_of (get_or columns k 0) (take (start + size - start) (drop start (between t from till))))
        {m' : Marks} (marked : m' ≡ mark_on m (get_or columns k 0) (take (start + size - start) (drop start (between t from till))))
        {noted' : Row} (with_value : noted' ≡ noted_in noted (get_or columns k 0) (from + start) size) where
      fine_is : fault_of (get_or columns k 0) value ≡ Ok tt
      fine_is = sym (rw value_is at fine)

      size_is : size ≡ length value
      unfolding value
      size_is = f.size_is

      start_is : from + start ≡ from + a + leading_blanks (field_from (between t from till) a)
      start_is = omega (arith, f.start_is)

      holds : take (length value) (drop (from + start) t) ≡ value
      unfolding value
      holds = rw (← size_is) (sym (part_of_part t from (till - from) start size fields_inside) ∙ f.value)

      sofar' : Observation
      sofar' = put s.sofar (get_or columns k 0) value

      at' : List ℕ
      at' = cond (is_present value) (set s.at (get_or columns k 0) (from + start)) s.at

      at_wide' : length at' ≡ elements
      unfolding at'
      at_wide' = bools (is_present value) (λ e. rw e (length-set s.at (get_or columns k 0) (from + start) ∙ s.at_wide)) (λ e. rw e s.at_wide)

      wide' : length sofar' ≡ elements
      unfolding sofar'
      wide' = put_length_lem s.sofar (get_or columns k 0) value ∙ s.wide

      marks' : m' ≡ marks_of sofar'
      unfolding sofar'
      marks' = marked ∙ (ap (λ (v : List ℕ). mark_on m (get_or columns k 0) v) value_is
          ∙ mark_on_lem s.sofar m (get_or columns k 0) value (omega (arith, small, s.wide)) s.marks)

      shows' : Shows t noted'.starts noted'.lengths sofar' at'
      unfolding sofar' at'
      shows' =
          noted_on t noted noted' (get_or columns k 0) (from + start) size s.sofar s.at value (small) s.wide s.at_wide s.starts_long s.lengths_long
          (omega (arith, fields_inside, lie.order, lie.in_text, size_is)) holds size_is with_value s.shows

      long' : (length noted'.starts ≡ length noted.starts) × (length noted'.lengths ≡ length noted.lengths)
      long' = long_on noted noted' (get_or columns k 0) (from + start) size with_value

      pub fields_on : Filling t columns noted' from till (end + 1) (k + 1) m'
      unfolding field_fault fill fill_starts value sofar' at'
      fields_on =
          let x : from + a + suc (length (field_from (between t from till) a)) ≡ from + (end + 1) = omega (arith, parted.wide) in
          record {
            left = parted.others;
            count = omega (arith, s.count, ap length left_is);
            lies = parted.after;
            starts_long = long'.0 ∙ s.starts_long;
            lengths_long = long'.1 ∙ s.lengths_long;
            sofar = sofar';
            wide = wide';
            at = at';
            at_wide = at_wide';
            marks = marks';
            shows = shows';
            faults = s.faults ∙ (ap (λ (fs : List (List ℕ)). field_fault (suc k) (drop k columns) fs) left_is ∙ rw (drop-cons columns k 0 h, fine_is, add-one k));
            rest = s.rest ∙ (ap (λ (fs : List (List ℕ)). fill (drop k columns) fs s.sofar) left_is ∙ rw (drop-cons columns k 0 h, add-one k));
            places = s.places
                ∙ (ap (λ (fs : List (List ℕ)). fill_starts (drop k columns) fs (from + a) s.at) left_is ∙ rw (drop-cons columns k 0 h, add-one k, start_is, ← x));
          }

  pub fields_end : length columns ≤ k → FieldsGood t columns noted from till m
  unfolding field_fault fill fill_starts
  fields_end h =
      let d : drop k columns ≡ [] = drop_of_length-le columns h in
      let r : row_of columns (fields (between t from till)) ≡ s.sofar = s.rest ∙ rw d in
      let p : starts_of columns (fields (between t from till)) from ≡ s.at = s.places ∙ rw d in
      record {
        sound = s.faults ∙ rw d;
        marks = s.marks ∙ ap (λ (o : Observation). marks_of o) (sym r);
        shows = rw (r, p) s.shows;
      }

-- ---- the data line

-- What the loop over the fields ensures, once its answer is known.
module _ {t columns : List ℕ} {noted : Row} {from till : ℕ} {r : Result Marks Fault} (f : FieldsAre t columns noted from till r) where
  pub good_of : {m : Marks} → r ≡ Ok m → FieldsGood t columns noted from till m
  good_of e = rw e at f.case

  pub wrong_of : {fault : Fault} → r ≡ Err fault → field_fault 1 columns (fields (between t from till)) ≡ Err fault
  wrong_of e = rw e at f.case

-- A refused row is refused also after rows of its block; a row is one where it is the first or of their kind, and else 21.
rows_bad : (before : Option Bool) {taken : Step} {fault : Fault} → taken ≡ bad fault.kind fault.place → after_rows before taken ≡ bad fault.kind fault.place
rows_bad None e = e
rows_bad (Some radar) e = rw e

rows_row : (before : Option Bool) {taken : Step} {o : Observation} → taken ≡ row o → beq (unwrap_or before (is_radar o)) (is_radar o) ≡ true
    → after_rows before taken ≡ row o
rows_row None e s = e
rows_row (Some radar) e s = rw (e, s)

rows_mixed : (before : Option Bool) {taken : Step} {o : Observation} → taken ≡ row o → beq (unwrap_or before (is_radar o)) (is_radar o) ≡ false
    → after_rows before taken ≡ bad KindsMixed 0
rows_mixed None {o = o} e s = absurd (alike (is_radar o) s)
  where
    alike : (b : Bool) → beq b b ≡ false → ⊥
    alike true s = true≢false s
    alike false s = true≢false s
rows_mixed (Some radar) e s = rw (e, s)

pub row_refused : {t columns : List ℕ} {noted : Row} {from till k : ℕ} {before : Option Bool} {fault : Fault}
    → data_line columns k (between t from till) ≡ bad fault.kind fault.place → RowIs t columns noted from till k before (Err fault)
row_refused {before = before} {fault = fault} e = record { case = rows_bad before {fault = fault} e }

pub row_many : (columns : List ℕ) (k : ℕ) (l : List ℕ) → row_limit ≤ k → data_line columns k l ≡ bad TooManyRows 0
unfolding data_line
row_many columns k l h = rw (le-ltb k row_limit h)

module _ {t : List ℕ} (columns : List ℕ) {from till parts k : ℕ} (lie : LineIn t from till parts) (h : k < row_limit) where
  pub row_count : (parts ≡ length columns → ⊥) → data_line columns k (between t from till) ≡ bad FieldCountDiffers 0
  unfolding data_line
  row_count n = rw (lt-ltb k row_limit h, ne_eqb (length (fields (between t from till))) (length columns) (λ e. n (lie.parts_are ∙ e)))

  module _ (c : parts ≡ length columns) where
    count_is : length (fields (between t from till)) ≡ length columns
    count_is = sym lie.parts_are ∙ c

    pub row_fields : {fault : Fault} → field_fault 1 columns (fields (between t from till)) ≡ Err fault
        → data_line columns k (between t from till) ≡ bad fault.kind fault.place
    unfolding data_line
    row_fields e = rw (lt-ltb k row_limit h, eq-eqb _ _ count_is, e)

    module _ {noted : Row} {m : Marks} (g : FieldsGood t columns noted from till m) where
      fault_is : set_fault m.present m.wgs84 m.earth ≡ observation_fault (row_of columns (fields (between t from till)))
      fault_is = rw g.marks (set_fault_lem (row_of columns (fields (between t from till))))

      pub row_held : (before : Option Bool) {r : Result Bool Fault} → r ≡ held_by m before
          → RowIs t columns (record { present = m.present; starts = noted.starts; lengths = noted.lengths }) from till k before r
      unfolding data_line held_by
      row_held before {r} e = record { case = go (observation_fault (row_of columns (fields (between t from till)))) refl }
        where
          kind_of_lem : is_radar_set m.present ≡ is_radar (row_of columns (fields (between t from till)))
          kind_of_lem = ap (λ (y : Marks). is_radar_set y.present) g.marks ∙ set_radar (row_of columns (fields (between t from till)))

          by : (f : Result Unit Fault) → observation_fault (row_of columns (fields (between t from till))) ≡ f → r ≡ kind_by f before (is_radar_set m.present)
          by f q = e ∙ ap (λ (x : Result Unit Fault). kind_by x before (is_radar_set m.present)) (fault_is ∙ q)

          go : (f : Result Unit Fault) → observation_fault (row_of columns (fields (between t from till))) ≡ f
              → RowCase t columns (record { present = m.present; starts = noted.starts; lengths = noted.lengths }) from till k before r
          go (Ok u) q =
              let taken : data_line columns k (between t from till) ≡ row (row_of columns (fields (between t from till))) =
              rw (lt-ltb k row_limit h, eq-eqb _ _ count_is, g.sound, q) in
              bools (beq (unwrap_or before (is_radar_set m.present)) (is_radar_set m.present))
              (λ s.
              let r-is : r ≡ Ok (is_radar_set m.present) = rw s at (by (Ok u) q) in
              rw r-is (record {
                got = row_of columns (fields (between t from till));
                is = rows_row before taken (rw kind_of_lem at s);
                kind_is = kind_of_lem;
                few = h;
                notes = record { set_is = ap (λ (y : Marks). y.present) g.marks; shows = g.shows };
              }))
              (λ s. let r-is : r ≡ Err (at KindsMixed 0) = rw s at (by (Ok u) q) in rw r-is (rows_mixed before taken (rw kind_of_lem at s)))
          go (Err fault) q =
              rw (by (Err fault) q) (rows_bad before {fault = fault} (rw (lt-ltb k row_limit h, eq-eqb _ _ count_is, g.sound, q)))
