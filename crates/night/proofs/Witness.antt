-- For fields within their ranges there is an accepted report with an observation of that number and those fields: short rows, and then
-- a row whose values are written from the fields.
use Prim.Native.Nat.{ℕ, zero, suc, ◌+◌, ◌-◌, ◌*◌, ◌≤◌, ◌<◌}
use mathlib.Core.Path.{◌≡◌, refl, ap, sym, fun_ext, ◌∙◌}
use mathlib.Core.Bool.{Bool, true, false, ◌||◌}
use mathlib.Core.List.{List, [], ◌∷◌, ◌++◌, map}
use native.Mathlib.Omega.{arith}
use lib.IntN.{pos}
use lib.ListN.{length, get_or, replicate, get_or-map}
use borrow.Author.Tests.{le-leb}
use Rattle.text.specs.Bytes.{bytes}
use Rattle.text.specs.Class.{leading, is_only}
use Rattle.text.specs.Digits.{after, number}
use Rattle.text.specs.Part.{same, starts}
use Rattle.std.specs.Prelude.{Ok}
use Rattle.value.specs.Angle.{is_degrees, is_right_ascension, units, right_ascension, declination}
use Rattle.value.specs.Calendar.{is_leap, year_days, month_length, month_days, is_date, day_number}
use Rattle.value.specs.Characters.{alphanumeric}
use Rattle.value.specs.Decimal.{is_decimal, places}
use Rattle.value.specs.Numeral.{is_digits, part}
use Rattle.value.specs.Sign.{bare, with_sign}
use Rattle.value.specs.Time.{is_time_end, is_time, is_moment, day_of, fraction, microseconds, obs_time}
use Rattle.value.specs.Word.{mode}
use Rattle.value.specs.declared.Value.{Value}
use Rattle.element.specs.Form.{value_of, fault_of}
use Rattle.element.specs.Observation.{Observation, is_present, holds_any, first_missing, group_missing, group_fault, optical_fault, fault_in, is_radar, is_wgs84, is_earth, observation_fault}
use Rattle.element.specs.Table.{column_order}
use Rattle.value.specs.Check.{less_value}
use Rattle.element.proofs.Forms.{fault_absent, fault_present}
use Rattle.report.specs.Report.{text_limit, row_limit, accepted, read}
use Rattle.layout.specs.Cost.{size_of}
use Rattle.layout.specs.Written.{is_anywhere, passing, columns_of, block_text}
use Rattle.layout.proofs.ColumnLaws.{weigh}
use Rattle.layout.proofs.FieldLaws.{is_clean}
use Rattle.layout.proofs.Accepted.{RightValue, Right, AllRight}
use Rattle.layout.proofs.BlockBytes.{rows_bytes, block_length_lem}
use Rattle.layout.proofs.BlockReads.{AllOfKind, block_reads}
use Rattle.night.specs.Record.{Fields, fields_in, record_bytes, record_of}
use Rattle.night.specs.List.{Writable}
use Rattle.night.proofs.Spell.{time_text, degrees_text, signed_text}
use Rattle.night.proofs.SpellLaws.{Solid, solid_trim, solid_clean}
use Rattle.night.proofs.TimeTexts.{time_value, time_solid}
use Rattle.night.proofs.AngleTexts.{ascension_value, signed_value, degrees_solid, signed_solid}
use Rattle.night.proofs.Dates.{DayOf, day_date}
use Rattle.night.proofs.RecordLaws.{Station, station_clean}
use Rattle.night.proofs.Done.{accepted_writable}
use Rattle.night.proofs.Within.{Within}

-- The rows.

-- A row of the least that an observation needs.
abbrev row_of : List ℕ → List ℕ → List ℕ → List ℕ → Observation
row_of stn time ra dec =
    [] ∷ [] ∷ [] ∷ bytes "a" ∷ [] ∷ [] ∷ bytes "CCD" ∷ stn ∷ [] ∷ [] ∷ [] ∷ [] ∷ [] ∷ [] ∷ time ∷ []
    ∷ ra ∷ dec ∷ [] ∷ [] ∷ [] ∷ bytes "a" ∷ replicate 21 []

-- The values from an index on are right.
data RightFrom : ℕ → Observation → Type 0 where
  none : {n : ℕ} → RightFrom n []
  value : {n : ℕ} {v : List ℕ} {o : Observation} → RightValue n v → RightFrom (suc n) o → RightFrom n (v ∷ o)

absent : (c : ℕ) → RightValue c []
unfolding is_clean
absent c = record { fine = fault_absent c; trimmed = refl; clean = refl }

absences : (k : ℕ) {n : ℕ} {o : Observation} → RightFrom (k + n) o → RightFrom n (replicate k [] ++ o)
absences zero {n} r = let e : 0 + n ≡ n = omega arith in rw e at r
absences (suc k) {n} r = let e : suc k + n ≡ k + suc n = omega arith in value (absent n) (absences k (rw e at r))

right_at : {n : ℕ} {o : Observation} → RightFrom n o → (c : ℕ) → RightValue (n + c) (get_or o c [])
right_at {n} none c = absent (n + c)
right_at {n} (value r rest) zero = let e : n + 0 ≡ n = omega arith in rw e r
right_at {n} (value r rest) (suc c) = let e : n + suc c ≡ suc n + c = omega arith in rw e (right_at rest c)

letter : (c : ℕ) → value_of c (bytes "a") ≡ Ok Value.NoValue → RightValue c (bytes "a")
unfolding is_clean fault_of
letter c e = record { fine = rw e; trimmed = refl; clean = refl }

letter_track : value_of 3 (bytes "a") ≡ Ok Value.NoValue
unfolding value_of alphanumeric is_only leading
letter_track = refl

letter_catalogue : value_of 21 (bytes "a") ≡ Ok Value.NoValue
unfolding value_of alphanumeric is_only leading
letter_catalogue = refl

camera : RightValue 6 (bytes "CCD")
unfolding is_clean fault_of value_of mode same
camera = record { fine = refl; trimmed = refl; clean = refl }

module _ (stn time ra dec : List ℕ) where
  row_sound : is_present stn ≡ true → is_present time ≡ true → is_present ra ≡ true → is_present dec ≡ true → observation_fault (row_of stn time ra dec) ≡ Ok tt
  unfolding observation_fault fault_in optical_fault holds_any first_missing group_fault group_missing is_wgs84 is_earth same
  row_sound a b c d = rw (a, b, c, d)

  -- None of 30 to 37 is in it.
  row_optical : is_radar (row_of stn time ra dec) ≡ false
  unfolding is_radar holds_any
  row_optical = refl

  row_right : RightValue 7 stn → RightValue 14 time → RightValue 16 ra → RightValue 17 dec
      → is_present stn ≡ true → is_present time ≡ true → is_present ra ≡ true → is_present dec ≡ true → Right (row_of stn time ra dec)
  row_right s t r e a b c d = record {
    long = refl;
    sound = row_sound a b c d;
    values = λ i. let z : 0 + i ≡ i = omega arith in rw z at (right_at all i);
  }
    where
      all : RightFrom 0 (row_of stn time ra dec)
      all =
          absences 3 (value (letter 3 letter_track) (absences 2 (value camera (value s (absences 6 (value t (absences 1 (value r (value e
          (absences 3 (value (letter 21 letter_catalogue) (absences 21 none))))))))))))

-- A short row.
abbrev filler : Observation
filler = row_of (bytes "aaa") (bytes "0001-01-01T00:00:00Z") (bytes "0") (bytes "0")

filler_station : RightValue 7 (bytes "aaa")
unfolding is_clean fault_of value_of alphanumeric is_only leading
filler_station = record { fine = refl; trimmed = refl; clean = refl }

filler_time : RightValue 14 (bytes "0001-01-01T00:00:00Z")
unfolding is_clean fault_of value_of obs_time is_time is_time_end is_moment day_of microseconds fraction part same starts leading number after
    is_date is_leap month_length month_days year_days day_number
filler_time = record { fine = refl; trimmed = refl; clean = refl }

filler_ascension : RightValue 16 (bytes "0")
unfolding is_clean fault_of value_of right_ascension is_right_ascension is_degrees is_decimal is_digits is_only leading places units number after
filler_ascension = record { fine = refl; trimmed = refl; clean = refl }

filler_declination : RightValue 17 (bytes "0")
unfolding is_clean fault_of value_of declination bare with_sign is_degrees is_decimal is_digits is_only leading places units number after
filler_declination = record { fine = refl; trimmed = refl; clean = refl }

filler_right : Right filler
filler_right =
    row_right (bytes "aaa") (bytes "0001-01-01T00:00:00Z") (bytes "0") (bytes "0") filler_station filler_time filler_ascension filler_declination
    refl refl refl refl

filler_optical : is_radar filler ≡ false
filler_optical = row_optical (bytes "aaa") (bytes "0001-01-01T00:00:00Z") (bytes "0") (bytes "0")

-- Short rows before a row. They are that short so that a report of as many as the limit allows has room for them.
abbrev rows : ℕ → Observation → List Observation
rows k o = replicate k filler ++ (o ∷ [])

rows_right : (k : ℕ) (o : Observation) → Right o → AllRight (rows k o)
rows_right zero o r = (r, tt)
rows_right (suc k) o r = (filler_right, rows_right k o r)

-- They are of one kind.
rows_optical : (k : ℕ) (o : Observation) → is_radar o ≡ false → AllOfKind false (rows k o)
rows_optical zero o e = (e, tt)
rows_optical (suc k) o e = (filler_optical, rows_optical k o e)

rows_length : (k : ℕ) (o : Observation) → length (rows k o) ≡ suc k
rows_length zero o = refl
rows_length (suc k) o = ap suc (rows_length k o)

rows_at : (k : ℕ) (o : Observation) → get_or (rows k o) k [] ≡ o
rows_at zero o = refl
rows_at (suc k) o = rows_at k o

-- A row of the least has a short row's columns, so they all stand under seven.

-- Which values are present.
abbrev presence : Observation → List Bool
presence o = map is_present o

presence_at : (o : Observation) (e : ℕ) → is_present (get_or o e []) ≡ get_or (presence o) e false
presence_at o e = sym (get_or-map is_present o e [])

rows_anywhere : (k : ℕ) (o : Observation) → presence o ≡ presence filler → (e : ℕ) → is_anywhere (rows k o) e ≡ is_present (get_or filler e [])
unfolding is_anywhere
rows_anywhere zero o h e = rw (presence_at o e, h, ← presence_at filler e) (or_same (is_present (get_or filler e [])))
  where
    or_same : (a : Bool) → a || false ≡ a
    or_same true = refl
    or_same false = refl
rows_anywhere (suc k) o h e = rw (rows_anywhere k o h e) (or_twice (is_present (get_or filler e [])))
  where
    or_twice : (a : Bool) → a || a ≡ a
    or_twice true = refl
    or_twice false = refl

-- trkSub, mode, stn, obsTime, ra, dec, astCat.
abbrev seven : List ℕ
seven = 3 ∷ 6 ∷ 7 ∷ 14 ∷ 16 ∷ 17 ∷ 21 ∷ []

rows_columns : (k : ℕ) (o : Observation) → presence o ≡ presence filler → columns_of (rows k o) ≡ seven
unfolding columns_of passing
rows_columns k o h = ap (λ (test : ℕ → Bool). passing test column_order) (fun_ext (rows_anywhere k o h))

-- They are within the text limit.
rows_bytes_lem : (k : ℕ) (o : Observation) → size_of o ≤ 63 → rows_bytes 7 (rows k o) ≤ k * 37 + 70
unfolding rows_bytes size_of
rows_bytes_lem zero o b = omega arith
rows_bytes_lem (suc k) o b = omega (arith, rows_bytes_lem k o b)

block_short : (o : Observation) (os : List Observation) (k : ℕ) → AllRight (o ∷ os) → columns_of (o ∷ os) ≡ seven
    → rows_bytes 7 (o ∷ os) ≤ k * 37 + 70 → suc k ≤ row_limit → length (block_text (o ∷ os)) ≤ text_limit
unfolding weigh
block_short o os k r c b h =
    let n : length (block_text (o ∷ os)) ≡ 15 + 31 + 7 + rows_bytes 7 (o ∷ os) = rw c at (block_length_lem o os r) in
    omega arith

-- They are accepted.
rows_read : (k : ℕ) (o : Observation) → Right o → is_radar o ≡ false → presence o ≡ presence filler → size_of o ≤ 63 → suc k ≤ row_limit
    → read (block_text (rows k o)) ≡ accepted (rows k o)
rows_read zero o r t p b h =
    block_reads o [] (rows_right 0 o r) tt (omega arith) (block_short o [] 0 (rows_right 0 o r) (rows_columns 0 o p) (rows_bytes_lem 0 o b) (omega arith))
rows_read (suc k) o r t p b h =
    block_reads filler (rows k o) (rows_right (suc k) o r) (rw filler_optical (rows_optical k o t)) (omega (arith, rows_length k o))
    (block_short filler (rows k o) (suc k) (rows_right (suc k) o r) (rows_columns (suc k) o p) (rows_bytes_lem (suc k) o b) h)

-- The row of fields.

station_right : (s : List ℕ) → Station s → RightValue 7 s
unfolding value_of alphanumeric
station_right s r = record {
  fine = fault_present 7 s (λ e. omega (arith, r.low)) ∙ rw (r.only, le-leb 3 (length s) r.low, le-leb (length s) 4 r.high);
  trimmed = r.trimmed;
  clean = station_clean s r;
}

-- A text of some bytes is present.
long_present : (v : List ℕ) → 0 < length v → is_present v ≡ true
long_present [] h = absurd (omega arith)
long_present (b ∷ v) h = refl

-- A value that was written has no fault.
solid_right : (c : ℕ) {most : ℕ} {v : List ℕ} (x : Value) → Solid most v → value_of c v ≡ Ok x → RightValue c v
solid_right c {v = v} x s is = record {
  fine = fault_present c v (λ e. omega (arith, s.some)) ∙ ap less_value is;
  trimmed = solid_trim v s.solid;
  clean = solid_clean v s.solid;
}

module _ (f : Fields) (w : Within f) (date : DayOf f.day) where
  -- The texts of the fields.
  abbrev time : List ℕ
  time = time_text date.year date.month date.day f.microseconds

  abbrev ascension : List ℕ
  ascension = degrees_text w.ra.units

  abbrev declination_text : List ℕ
  declination_text = signed_text f.dec

  -- The row of them.
  abbrev made : Observation
  made = row_of f.station time ascension declination_text

  -- Their values.
  time_is : value_of 14 time ≡ Ok (Value.Time (day_number date.year date.month date.day) f.microseconds)
  unfolding value_of
  time_is = time_value date.year date.month date.day f.microseconds date.date w.microseconds

  ascension_is : value_of 16 ascension ≡ Ok (Value.Angle (pos w.ra.units))
  unfolding value_of
  ascension_is = ascension_value w.ra.units w.ra.below

  declination_is : value_of 17 declination_text ≡ Ok (Value.Angle f.dec)
  unfolding value_of
  declination_is = signed_value f.dec w.dec

  -- So the row has the fields.
  made_fields : fields_in f.number made ≡ f
  unfolding fields_in
  made_fields = rw (time_is, ascension_is, declination_is, date.is, ← w.ra.is)

  -- None of them has a blank, and none is absent.
  time_whole : Solid 27 time
  time_whole = time_solid date.year date.month date.day f.microseconds

  ascension_whole : Solid 13 ascension
  ascension_whole = degrees_solid w.ra.units (omega (arith, w.ra.below))

  declination_whole : Solid 14 declination_text
  declination_whole = signed_solid f.dec w.dec

  station_present : is_present f.station ≡ true
  station_present = long_present f.station (omega (arith, w.station.low))

  time_present : is_present time ≡ true
  time_present = long_present time time_whole.some

  ascension_present : is_present ascension ≡ true
  ascension_present = long_present ascension ascension_whole.some

  declination_present : is_present declination_text ≡ true
  declination_present = long_present declination_text declination_whole.some

  made_right : Right made
  made_right =
      row_right f.station time ascension declination_text (station_right f.station w.station)
      (solid_right 14 (Value.Time (day_number date.year date.month date.day) f.microseconds) time_whole time_is)
      (solid_right 16 (Value.Angle (pos w.ra.units)) ascension_whole ascension_is)
      (solid_right 17 (Value.Angle f.dec) declination_whole declination_is)
      station_present time_present ascension_present declination_present

  made_optical : is_radar made ≡ false
  made_optical = row_optical f.station time ascension declination_text

  made_presence : presence made ≡ presence filler
  made_presence = rw (station_present, time_present, ascension_present, declination_present)

  made_short : size_of made ≤ 63
  unfolding size_of
  made_short = omega (arith, w.station.high, time_whole.few, ascension_whole.few, declination_whole.few)

  -- It is the last of a report of as many rows as the number says.
  made_writable : Writable f.number (record_bytes f)
  unfolding record_of
  made_writable =
      let k = f.number - 1 in
      let os = rows k made in
      let reads = rows_read k made made_right made_optical made_presence made_short (omega (arith, w.first, w.last)) in
      let many : f.number ≤ length os = omega (arith, rows_length k made) in
      let optical : is_radar (get_or os (f.number - 1) []) ≡ false = rw (rows_at k made) made_optical in
      rw (rows_at k made, made_fields) at (accepted_writable (block_text os) os f.number reads w.first many optical)

-- Fields within their ranges are those of an accepted observation of their number.
pub within_writable : (f : Fields) → Within f → Writable f.number (record_bytes f)
within_writable f w = made_writable f w (day_date f.day w.day)
