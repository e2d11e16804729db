-- A written time is valued at the date and the microseconds that it was written from.
use Prim.Native.Nat.{ℕ, ◌+◌, ◌*◌, ◌/◌, ◌%◌, ◌<◌}
use mathlib.Core.Path.{◌≡◌, refl, ◌∙◌}
use mathlib.Core.Bool.{true}
use mathlib.Core.List.{List, [], ◌∷◌}
use native.Mathlib.Omega.{arith}
use lib.ListN.{length, drop}
use borrow.Author.Tests.{le-leb}
use Rattle.text.specs.Bytes.{bytes}
use Rattle.text.specs.Class.{leading}
use Rattle.text.specs.Part.{same, starts}
use Rattle.value.specs.Calendar.{is_date, day_number, is_leap}
use Rattle.value.specs.Numeral.{digits, part}
use Rattle.value.specs.Time.{is_fraction, is_time_end, is_time, is_moment, day_of, fraction, microseconds, obs_time}
use Rattle.value.specs.declared.Value.TheVariants.{Time}
use Rattle.std.specs.Prelude.{Ok}
use Rattle.value.proofs.Days.{date_parts, month_length_small}
use Rattle.night.proofs.Spell.{spell, time_text}
use Rattle.night.proofs.SpellLaws.{spell_is, spell_leading, spell_starts, spell_solid, Solid}

-- The text from the fraction on, from the seconds on, and so forth.
abbrev fraction_on : ℕ → List ℕ
fraction_on us = 46 ∷ spell 6 (us % 1000000) (90 ∷ [])

abbrev second_on : ℕ → List ℕ
second_on us = 58 ∷ spell 2 (us / 1000000 % 60) (fraction_on us)

abbrev minute_on : ℕ → List ℕ
minute_on us = 58 ∷ spell 2 (us / 60000000 % 60) (second_on us)

abbrev hour_on : ℕ → List ℕ
hour_on us = 84 ∷ spell 2 (us / 3600000000) (minute_on us)

abbrev day_on : ℕ → ℕ → List ℕ
day_on d us = 45 ∷ spell 2 d (hour_on us)

abbrev month_on : ℕ → ℕ → ℕ → List ℕ
month_on m d us = 45 ∷ spell 2 m (day_on d us)

module _ (y m d us : ℕ) where
  in_shape : starts (bytes "dddd-dd-ddTdd:dd:dd") (time_text y m d us) ≡ true
  unfolding time_text starts
  in_shape =
      spell_starts 4 y (bytes "-dd-ddTdd:dd:dd") (month_on m d us)
      ∙ spell_starts 2 m (bytes "-ddTdd:dd:dd") (day_on d us)
      ∙ spell_starts 2 d (bytes "Tdd:dd:dd") (hour_on us)
      ∙ spell_starts 2 (us / 3600000000) (bytes ":dd:dd") (minute_on us)
      ∙ spell_starts 2 (us / 60000000 % 60) (bytes ":dd") (second_on us)
      ∙ spell_starts 2 (us / 1000000 % 60) [] (fraction_on us)

  six : digits (spell 6 (us % 1000000) (90 ∷ [])) ≡ 6
  unfolding leading
  six = spell_leading 6 (us % 1000000) (90 ∷ [])

  in_end : is_time_end (fraction_on us) ≡ true
  unfolding is_time_end is_fraction same spell
  in_end = rw six

  ending : is_time_end (drop 19 (time_text y m d us)) ≡ true
  unfolding time_text spell
  ending = in_end

  time_form : is_time (time_text y m d us) ≡ true
  unfolding is_time
  time_form = rw in_shape ending

  part_year : y < 10000 → part 0 4 (time_text y m d us) ≡ y
  unfolding part time_text spell
  part_year h = spell_is 4 y h

  part_month : m < 100 → part 5 2 (time_text y m d us) ≡ m
  unfolding part time_text spell
  part_month h = spell_is 2 m h

  part_day : d < 100 → part 8 2 (time_text y m d us) ≡ d
  unfolding part time_text spell
  part_day h = spell_is 2 d h

  part_hour : us < 86400000000 → part 11 2 (time_text y m d us) ≡ us / 3600000000
  unfolding part time_text spell
  part_hour h = spell_is 2 (us / 3600000000) (omega arith)

  part_minute : part 14 2 (time_text y m d us) ≡ us / 60000000 % 60
  unfolding part time_text spell
  part_minute = spell_is 2 (us / 60000000 % 60) (omega arith)

  part_second : part 17 2 (time_text y m d us) ≡ us / 1000000 % 60
  unfolding part time_text spell
  part_second = spell_is 2 (us / 1000000 % 60) (omega arith)

  part_fraction : fraction (time_text y m d us) ≡ us % 1000000
  unfolding fraction part time_text spell
  part_fraction = rw (six, spell_is 6 (us % 1000000) (omega arith)) (omega arith)

  -- The parts of a day together.
  clock_sum : ((us / 3600000000 * 60 + us / 60000000 % 60) * 60 + us / 1000000 % 60) * 1000000 + us % 1000000 ≡ us
  clock_sum =
      let a : us / 60000000 ≡ us / 1000000 / 60 = omega arith in
      let b : us / 3600000000 ≡ us / 1000000 / 60 / 60 = omega arith in
      omega arith

  -- A written time has its value.
  pub time_value : is_date y m d ≡ true → us < 86400000000 → obs_time (time_text y m d us) ≡ Ok (Time (day_number y m d) us)
  unfolding obs_time is_moment day_of microseconds
  time_value h k =
      let p = date_parts y m d h in
      rw (
        time_form,
        part_year (omega (arith, p.high_year)),
        part_month (omega (arith, p.high_month)),
        part_day (omega (arith, p.high_day, month_length_small (is_leap y) m)),
        part_hour k,
        part_minute,
        part_second,
        part_fraction,
        h,
        le-leb (us / 3600000000) 23 (omega arith),
        le-leb (us / 60000000 % 60) 59 (omega arith),
        le-leb (us / 1000000 % 60) 59 (omega arith),
        clock_sum,
      )

  -- It has 27 bytes, none of them a blank.
  pub time_solid : Solid 27 (time_text y m d us)
  unfolding time_text
  time_solid = record {
    some = omega (arith, long);
    few = omega (arith, long);
    solid =
        spell_solid 4 y (month_on m d us)
        ∙ spell_solid 2 m (day_on d us)
        ∙ spell_solid 2 d (hour_on us)
        ∙ spell_solid 2 (us / 3600000000) (minute_on us)
        ∙ spell_solid 2 (us / 60000000 % 60) (second_on us)
        ∙ spell_solid 2 (us / 1000000 % 60) (fraction_on us)
        ∙ spell_solid 6 (us % 1000000) (90 ∷ []);
  }
    where
      long : length (time_text y m d us) ≡ 27
      long = unfold time_text spell in refl
