-- Which forms never give 8: permID, provID, artSat, mode, sys, obsTime, ra, dec and com, for any text.
use Prim.Native.Nat.{ℕ}
use mathlib.Core.Path.{◌≡◌}
use mathlib.Core.Bool.{Bool, true, false, cond, ◌&&◌}
use mathlib.Core.List.{List}
use lib.Dec.{leb, ltb}
use lib.ListN.{drop}
use Rattle.std.specs.Prelude.{Result, Ok, Err}
use Rattle.text.specs.Bytes.{bytes}
use Rattle.text.specs.Part.{starts}
use Rattle.refusal.specs.declared.Kind.{Kind}
use Rattle.refusal.specs.declared.Kind.TheVariants.{TooWide, WrongForm, OutOfRange}
use Rattle.value.specs.Angle.{is_degrees, is_right_ascension, units, right_ascension, declination}
use Rattle.value.specs.Designation.{is_capitals, is_numbered_comet, perm_id, is_minor_planet, is_comet, prov_id, art_sat}
use Rattle.value.specs.Numeral.{is_count, part}
use Rattle.value.specs.Sign.{bare}
use Rattle.value.specs.Time.{is_time, is_moment, obs_time}
use Rattle.value.specs.Word.{is_one_of, modes, mode, systems, system, flags, flag}
use Rattle.value.specs.declared.Value.{Value}

-- The value is not the fault 8.
abbrev pub Narrow : Result Value Kind → Type 0
Narrow value = value ≡ Err TooWide → ⊥

-- Of two values, whichever a test picks.
either : (test : Bool) (first second : Result Value Kind) → Narrow first → Narrow second → Narrow (cond test first second)
either true first second f s = f
either false first second f s = s

-- Neither of the other faults is 8, and no value is.
wrong_form : Narrow (Err WrongForm)
wrong_form e = cc

out_of_range : Narrow (Err OutOfRange)
out_of_range e = cc

a_value : (value : Value) → Narrow (Ok value)
a_value value e = cc

-- Each form gives one of these.
module _ (text : List ℕ) where
  pub perm_id_narrow : Narrow (perm_id text)
  unfolding perm_id
  perm_id_narrow =
      either (is_count 8 text) _ _
      (either (leb (part 0 8 text) 61999999) _ _ (a_value _) out_of_range)
      (either (is_numbered_comet text) _ _ (a_value _) wrong_form)

  pub prov_id_narrow : Narrow (prov_id text)
  unfolding prov_id
  prov_id_narrow =
      either (is_minor_planet text) _ _
      (either (leb (part 7 5 text) 61999) _ _ (a_value _) out_of_range)
      (either (is_comet text) _ _ (a_value _) wrong_form)

  pub art_sat_narrow : Narrow (art_sat text)
  unfolding art_sat
  art_sat_narrow = either (starts (bytes "dddd-ddd") text && is_capitals 1 3 (drop 8 text)) _ _ (a_value _) wrong_form

  pub mode_narrow : Narrow (mode text)
  unfolding mode
  mode_narrow = either (is_one_of modes text) _ _ (a_value _) out_of_range

  pub system_narrow : Narrow (system text)
  unfolding system
  system_narrow = either (is_one_of systems text) _ _ (a_value _) out_of_range

  pub flag_narrow : Narrow (flag text)
  unfolding flag
  flag_narrow = either (is_one_of flags text) _ _ (a_value _) out_of_range

  pub obs_time_narrow : Narrow (obs_time text)
  unfolding obs_time
  obs_time_narrow =
      either (is_time text) _ _ (either (is_moment text) _ _ (a_value _) out_of_range) wrong_form

  pub right_ascension_narrow : Narrow (right_ascension text)
  unfolding right_ascension
  right_ascension_narrow =
      either (is_right_ascension text) _ _
      (either (ltb (units text) 360000000000) _ _ (a_value _) out_of_range)
      wrong_form

  pub declination_narrow : Narrow (declination text)
  unfolding declination
  declination_narrow =
      either (is_degrees 2 (bare true text)) _ _
      (either (leb (units (bare true text)) 90000000000) _ _ (a_value _) out_of_range)
      wrong_form
