-- obsTime: `yyyy-mm-ddThh:mm:ss`, optionally a point and 1 to 6 digits, then `Z`.
use Prim.Native.Char.{code}
use Rattle.std.specs.Prelude.{ℕ, ◌+◌, ◌-◌, ◌*◌, ◌^◌, Bool, cond, ◌&&◌, ◌||◌, List, eqb, leb, ℤ, get_or, drop, Result, Ok, Err}
use Rattle.text.specs.Bytes.{bytes}
use Rattle.text.specs.Part.{same, starts}
use Rattle.refusal.specs.declared.Kind.{Kind}
use Rattle.refusal.specs.declared.Kind.TheVariants.{WrongForm, OutOfRange}
use Rattle.value.specs.Numeral.{digits, part}
use Rattle.value.specs.Calendar.{is_date, is_clock, day_number}
use Rattle.value.specs.declared.Value.{Value}
use Rattle.value.specs.declared.Value.TheVariants.{Time}

-- One to six digits, then Z.
unfoldable pub is_fraction : List ℕ → Bool
is_fraction text = leb 1 (digits text) && leb (digits text) 6 && same (drop (digits text) text) (bytes "Z")

-- Z, or a point and a fraction.
unfoldable pub is_time_end : List ℕ → Bool
is_time_end text = same text (bytes "Z") || (eqb (get_or text 0 0) (code ".") && is_fraction (drop 1 text))

-- The text has the form of a time.
unfoldable pub is_time : List ℕ → Bool
is_time text = starts (bytes "dddd-dd-ddTdd:dd:dd") text && is_time_end (drop 19 text)

-- Its date stands in the calendar and its time on the clock.
unfoldable pub is_moment : List ℕ → Bool
is_moment text = is_date (part 0 4 text) (part 5 2 text) (part 8 2 text) && is_clock (part 11 2 text) (part 14 2 text) (part 17 2 text)

-- The day number of its date.
unfoldable pub day_of : List ℕ → ℤ
day_of text = day_number (part 0 4 text) (part 5 2 text) (part 8 2 text)

-- The microseconds of the digits after the point.
unfoldable pub fraction : List ℕ → ℕ
fraction text = part 20 6 text * 10 ^ (6 - digits (drop 20 text))

-- The microseconds of the day.
unfoldable pub microseconds : List ℕ → ℕ
microseconds text = ((part 11 2 text * 60 + part 14 2 text) * 60 + part 17 2 text) * 1000000 + fraction text

-- Its value is a signed day number and the microseconds of the day.
unfoldable pub obs_time : List ℕ → Result Value Kind
obs_time text = cond (is_time text) (cond (is_moment text) (Ok (Time (day_of text) (microseconds text))) (Err OutOfRange)) (Err WrongForm)
