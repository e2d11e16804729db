-- The night list's records: 40 bytes for an observation.
use Rattle.std.specs.Prelude.{ℕ, ◌+◌, ◌-◌, Bool, cond, ◌&&◌, List, [], ◌∷◌, ◌++◌, eqb, leb, ltb, ℤ, pos, neg_ℤ, get_or, take, drop, Result, Ok, Err}
use Rattle.std.specs.Int.Signed.{le_z, lt_z}
use Rattle.std.specs.Int.{w32, w64}
use Rattle.std.proofs.Common.{of_z, to_z}
use Rattle.text.specs.Class.{is_only}
use Rattle.text.specs.Lines.{blank, trim}
use Rattle.text.specs.Output.{low_bytes, spelt}
use Rattle.text.specs.Part.{same}
use Rattle.text.specs.declared.class.Class.TheVariants.{Alphanumeric}
use Rattle.refusal.specs.declared.Kind.{Kind}
use Rattle.value.specs.Calendar.{day_number}
use Rattle.value.specs.Characters.{is_long}
use Rattle.value.specs.declared.Value.{Value}
use Rattle.value.specs.declared.Value.TheVariants.{NoValue, Whole, Decimal, Time, Angle, Scaled}
use Rattle.element.specs.Form.{value_of}
use Rattle.element.specs.Observation.{Observation, value_at}
use Rattle.report.specs.Report.{row_limit}

-- What a record holds.
pub record Fields : Type 0 where
  pub number : ℕ
  pub station : List ℕ
  pub day : ℤ
  pub microseconds : ℕ
  pub ra : ℤ
  pub dec : ℤ

-- The day of a time, 0 of another value and of a fault.
abbrev pub day_in : Result Value Kind → ℤ
day_in (Err kind) = pos 0
day_in (Ok NoValue) = pos 0
day_in (Ok (Whole whole)) = pos 0
day_in (Ok (Decimal whole places)) = pos 0
day_in (Ok (Time day microseconds)) = day
day_in (Ok (Angle units)) = pos 0
day_in (Ok (Scaled negative high low power)) = pos 0

-- The microseconds of a time, 0 of another value and of a fault.
abbrev pub microseconds_in : Result Value Kind → ℕ
microseconds_in (Err kind) = 0
microseconds_in (Ok NoValue) = 0
microseconds_in (Ok (Whole whole)) = 0
microseconds_in (Ok (Decimal whole places)) = 0
microseconds_in (Ok (Time day microseconds)) = microseconds
microseconds_in (Ok (Angle units)) = 0
microseconds_in (Ok (Scaled negative high low power)) = 0

-- The units of an angle, 0 of another value and of a fault.
abbrev pub units_in : Result Value Kind → ℤ
units_in (Err kind) = pos 0
units_in (Ok NoValue) = pos 0
units_in (Ok (Whole whole)) = pos 0
units_in (Ok (Decimal whole places)) = pos 0
units_in (Ok (Time day microseconds)) = pos 0
units_in (Ok (Angle units)) = units
units_in (Ok (Scaled negative high low power)) = pos 0

-- The fields of a number, counted from 1, a station and the values of obsTime, ra and dec.
abbrev pub fields_from : ℕ → List ℕ → Result Value Kind → Result Value Kind → Result Value Kind → Fields
fields_from number station time ra dec = record {
  number = number;
  station = station;
  day = day_in time;
  microseconds = microseconds_in time;
  ra = units_in ra;
  dec = units_in dec;
}

-- The fields of an observation of a number: stn, obsTime, ra, dec. Values are found by the element's number and valued by its index, which
-- is one less.
unfoldable pub fields_in : ℕ → Observation → Fields
fields_in number observation =
    fields_from number
    (value_at 8 observation)
    (value_of 14 (value_at 15 observation))
    (value_of 16 (value_at 17 observation))
    (value_of 17 (value_at 18 observation))

-- A station in four bytes, a blank after a three-letter one.
abbrev pub padded : List ℕ → List ℕ
padded station = get_or station 0 blank ∷ get_or station 1 blank ∷ get_or station 2 blank ∷ get_or station 3 blank ∷ []

-- The first `count` bytes of a signed number in two's complement, low byte first.
abbrev pub signed_bytes : ℕ → ℤ → List ℕ
signed_bytes count number = low_bytes count (of_z w64 number)

-- The record of fields: byte 0 the number less one and 1 to 3 zero, which is that number in four bytes, since it is below 256; 4 to 7 stn,
-- 8 to 11 the day number, 12 to 19 microseconds, 20 to 27 ra, 28 to 35 dec; 36 to 39 zero.
unfoldable pub record_bytes : Fields → List ℕ
record_bytes f =
    low_bytes 4 (f.number - 1) ++ (padded f.station ++ (signed_bytes 4 f.day ++ (low_bytes 8 f.microseconds
    ++ (signed_bytes 8 f.ra ++ (signed_bytes 8 f.dec ++ low_bytes 4 0)))))

-- The record of an observation of a number.
unfoldable pub record_of : ℕ → Observation → List ℕ
record_of number observation = record_bytes (fields_in number observation)

-- A station out of four bytes: a blank at their end is left out.
abbrev pub unpadded : List ℕ → List ℕ
unpadded text = cond (eqb (get_or text 3 0) blank) (take 3 text) text

-- What `count` bytes from a place on spell.
abbrev pub spelt_at : ℕ → ℕ → List ℕ → ℕ
spelt_at from count bytes = spelt (take count (drop from bytes))

-- The fields of a record's bytes.
unfoldable pub fields_of : List ℕ → Fields
fields_of bytes = record {
  number = spelt_at 0 4 bytes + 1;
  station = unpadded (take 4 (drop 4 bytes));
  day = to_z w32 (spelt_at 8 4 bytes);
  microseconds = spelt_at 12 8 bytes;
  ra = to_z w64 (spelt_at 20 8 bytes);
  dec = to_z w64 (spelt_at 28 8 bytes);
}

-- Three or four alphanumerics, no blank at either end.
unfoldable pub is_station : List ℕ → Bool
is_station text = is_only Alphanumeric text && is_long 3 4 text && same (trim text) text

-- The day of a date in the years 0001 to 9999.
unfoldable pub is_day : ℤ → Bool
is_day day = le_z (day_number 1 1 1) day && le_z day (day_number 9999 12 31)

-- From 0 to below 360 degrees.
unfoldable pub is_ascension : ℤ → Bool
is_ascension units = le_z (pos 0) units && lt_z units (pos 360000000000)

-- From -90 to 90 degrees.
unfoldable pub is_declination : ℤ → Bool
is_declination units = le_z (neg_ℤ (pos 90000000000)) units && le_z units (pos 90000000000)

-- Each field lies where an accepted observation's does.
unfoldable pub is_within : Fields → Bool
is_within f =
    leb 1 f.number && leb f.number row_limit && is_station f.station && is_day f.day && ltb f.microseconds 86400000000
    && is_ascension f.ra && is_declination f.dec

-- The bytes are a right record at the place of a number: its fields have that number and lie within, and the bytes are their record.
unfoldable pub is_record : ℕ → List ℕ → Bool
is_record number bytes = eqb (fields_of bytes).number number && is_within (fields_of bytes) && same bytes (record_bytes (fields_of bytes))
