-- What the test of fields tells, field by field, and that such fields come back from their record.
use Prim.Native.Nat.{ℕ, suc, ◌+◌, ◌-◌, ◌^◌, ◌≤◌, ◌<◌}
use mathlib.Core.Path.{◌≡◌, refl, ap, ◌∙◌}
use mathlib.Core.Bool.{Bool, true, ◌&&◌}
use native.Mathlib.Omega.{arith}
use lib.Dec.{leb, ltb}
use lib.IntN.{ℤ, pos, negsuc}
use lib.Signed.{mag}
use borrow.Author.Tests.{le-leb, leb-true, lt-ltb, ltb-true}
use Rattle.text.specs.Output.{low_bytes, spelt}
use Rattle.text.proofs.Bools.{both, never}
use Rattle.text.proofs.Outputs.{spelt_low}
use Rattle.report.specs.Report.{row_limit}
use Rattle.night.specs.Record.{Fields, is_station, is_day, is_ascension, is_declination, is_within, record_bytes, fields_of}
use Rattle.night.proofs.Dates.{day_fits}
use Rattle.night.proofs.RecordLaws.{Station, station_of, is_station_lem, station_back, signed_four, signed_eight}

-- From 0 to below 360 degrees.
pub record Ascension (z : ℤ) : Type 0 where
  pub units : ℕ
  pub is : z ≡ pos units
  pub below : units < 360000000000

ascension_of : (z : ℤ) → is_ascension z ≡ true → Ascension z
unfolding is_ascension
ascension_of (pos u) h = record { units = u; is = refl; below = ltb-true u 360000000000 (both (leb 0 u) (ltb u 360000000000) h).1 }
ascension_of (negsuc u) h = never h

is_ascension_lem : (u : ℕ) → u < 360000000000 → is_ascension (pos u) ≡ true
unfolding is_ascension
is_ascension_lem u h = rw (le-leb 0 u (omega arith), lt-ltb u 360000000000 h)

-- From -90 to 90 degrees.
abbrev pub Declination : ℤ → Type 0
Declination (pos u) = u ≤ 90000000000
Declination (negsuc u) = suc u ≤ 90000000000

declination_of : (z : ℤ) → is_declination z ≡ true → Declination z
unfolding is_declination
declination_of (pos u) h = leb-true u 90000000000 h
declination_of (negsuc u) h = let b = leb-true u 89999999999 (both (leb u 89999999999) true h).0 in omega arith

is_declination_lem : (z : ℤ) → Declination z → is_declination z ≡ true
unfolding is_declination
is_declination_lem (pos u) h = le-leb u 90000000000 h
is_declination_lem (negsuc u) h = rw (le-leb u 89999999999 (omega arith))

-- Fields within their ranges.
pub record Within (f : Fields) : Type 0 where
  pub first : 1 ≤ f.number
  pub last : f.number ≤ row_limit
  pub station : Station f.station
  pub day : is_day f.day ≡ true
  pub microseconds : f.microseconds < 86400000000
  pub ra : Ascension f.ra
  pub dec : Declination f.dec

pub within_of : (f : Fields) → is_within f ≡ true → Within f
unfolding is_within
within_of f h =
    let n : Bool = leb 1 f.number in
    let m : Bool = leb f.number row_limit in
    let s : Bool = is_station f.station in
    let d : Bool = is_day f.day in
    let t : Bool = ltb f.microseconds 86400000000 in
    let a : Bool = is_ascension f.ra in
    let e = both (n && m && s && d && t && a) (is_declination f.dec) h in
    let g = both (n && m && s && d && t) a e.0 in
    let i = both (n && m && s && d) t g.0 in
    let j = both (n && m && s) d i.0 in
    let k = both (n && m) s j.0 in
    let l = both n m k.0 in
    record {
      first = leb-true 1 f.number l.0;
      last = leb-true f.number row_limit l.1;
      station = station_of f.station k.1;
      day = j.1;
      microseconds = ltb-true f.microseconds 86400000000 i.1;
      ra = ascension_of f.ra g.1;
      dec = declination_of f.dec e.1;
    }

pub is_within_lem : (f : Fields) → Within f → is_within f ≡ true
unfolding is_within
is_within_lem f w =
    let a : is_ascension f.ra ≡ true = ap is_ascension w.ra.is ∙ is_ascension_lem w.ra.units w.ra.below in
    rw (
      le-leb 1 f.number w.first,
      le-leb f.number row_limit w.last,
      is_station_lem f.station w.station,
      w.day,
      lt-ltb f.microseconds 86400000000 w.microseconds,
      a,
    )
    (is_declination_lem f.dec w.dec)

-- They come back from their record.
ascension_mag : (z : ℤ) → Ascension z → mag z < 2 ^ 63
ascension_mag z a = rw a.is (omega (arith, a.below))

declination_mag : (z : ℤ) → Declination z → mag z < 2 ^ 63
declination_mag (pos u) h = omega arith
declination_mag (negsuc u) h = omega arith

pub fields_back : (f : Fields) → Within f → fields_of (record_bytes f) ≡ f
unfolding fields_of record_bytes low_bytes
fields_back f w =
    let n : spelt (low_bytes 4 (f.number - 1)) + 1 ≡ f.number = omega (arith, spelt_low 4 (f.number - 1) (omega (arith, w.last)), w.first) in
    rw (
      n,
      station_back f.station w.station,
      signed_four f.day (day_fits f.day w.day),
      spelt_low 8 f.microseconds (omega (arith, w.microseconds)),
      signed_eight f.ra (ascension_mag f.ra w.ra),
      signed_eight f.dec (declination_mag f.dec w.dec),
    )
