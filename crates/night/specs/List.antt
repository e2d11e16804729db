-- A night list: records one after another. What writing a record answers and leaves, what a record means, and what the list's reader answers.
use Rattle.std.specs.Prelude.{ℕ, zero, suc, ◌+◌, ◌-◌, ◌*◌, ◌/◌, ◌≡◌, Bool, not, cond, ◌&&◌, List, [], ◌++◌, eqb, leb, length, get_or, take, drop, Result, Ok, Err}
use Rattle.text.specs.Output.{spelt, over}
use Rattle.refusal.specs.Paper.{paper, request, Answer, refused_by, given}
use Rattle.refusal.specs.declared.Kind.TheVariants.{NoObservation, NotOptical, ListTooShort, BadRecord}
use Rattle.refusal.specs.declared.Refusal.{Refusal}
use Rattle.element.specs.Observation.{is_radar}
use Rattle.report.specs.Report.{Outcome, accepted, refused, read}
use Rattle.report.specs.Answers.{is_observation}
use Rattle.night.specs.Record.{Fields, padded, record_of, fields_of, is_record}
use Rattle.night.specs.declared.answer.Record.{Record}

-- How many bytes a record has.
abbrev pub record_size : ℕ
record_size = 40

-- Where the record of a number begins in a list.
abbrev pub place_of : ℕ → ℕ
place_of number = (number - 1) * record_size

-- The record of a number in a list, counted from 1; short at the list's end.
abbrev pub record_at : ℕ → List ℕ → List ℕ
record_at number list = take record_size (drop (place_of number) list)

-- ---- writing

-- What was asked for is done.
pub data Done : Type 0 where
  done : Done

-- The list has room for the record of a number at its place.
abbrev pub has_place : ℕ → List ℕ → Bool
has_place number list = leb (number * record_size) (length list)

-- The list with a record over the bytes at the place of a number.
unfoldable pub list_with : ℕ → List ℕ → List ℕ → List ℕ
list_with number bytes list = take (place_of number) list ++ over bytes (drop (place_of number) list)

-- The answer to a writing: that it is done, or a refusal.
abbrev pub written_paper : Result Unit Refusal → Answer Done
written_paper (Ok x) = given done
written_paper (Err x) = refused_by (paper x)

-- Whether the record of observation n of a report is written to the list: the report's refusal, 16, 23 for a radar observation, 19, else done.
abbrev pub written_answer : Outcome → ℕ → List ℕ → Answer Done
written_answer (accepted os) n list =
    cond (is_observation os n)
    (cond (is_radar (get_or os (n - 1) []))
    (refused_by (paper (request NotOptical)))
    (cond (has_place n list) (given done) (refused_by (paper (request ListTooShort)))))
    (refused_by (paper (request NoObservation)))
written_answer (refused x) n list = refused_by (paper x)

-- The list after it: where that is done, with the record in its place; else as it was.
abbrev pub list_after : Outcome → ℕ → List ℕ → List ℕ
list_after (accepted os) n list =
    cond (is_observation os n && (not (is_radar (get_or os (n - 1) [])) && has_place n list)) (list_with n (record_of n (get_or os (n - 1) [])) list) list
list_after (refused x) n list = list

-- ---- what a record means

-- An accepted observation at the place of a number could have written these bytes: for some report and list the writing is done and leaves
-- them there.
pub record Writable (number : ℕ) (bytes : List ℕ) : Type 0 where
  pub report : List ℕ
  pub list : List ℕ
  pub is_done : written_answer (read report) number list ≡ given done
  pub leaves : record_at number (list_after (read report) number list) ≡ bytes

-- ---- reading

-- How many records a list has, a short last one counted.
abbrev pub record_count : List ℕ → ℕ
record_count list = (length list + (record_size - 1)) / record_size

-- The first bad one of `count` records from a number on, 0 where none is.
unfoldable pub bad_from : ℕ → ℕ → List ℕ → ℕ
bad_from zero number list = 0
bad_from (suc count) number list = cond (is_record number (record_at number list)) (bad_from count (suc number) list) number

-- The first bad record of a list, 0 where none is.
unfoldable pub first_bad : List ℕ → ℕ
first_bad list = bad_from (record_count list) 1 list

-- A bad record has line 0; its place is its number.
abbrev pub bad_record : ℕ → Refusal
bad_record number = record { kind = BadRecord; line = 0; place = number }

-- The answer to a check of a list: how many records, or a refusal.
abbrev pub listed_paper : Result ℕ Refusal → Answer ℕ
listed_paper (Ok n) = given n
listed_paper (Err x) = refused_by (paper x)

-- How many records a list has, or 20 at its first bad one.
unfoldable pub list_answer : List ℕ → Answer ℕ
list_answer list = cond (eqb (first_bad list) 0) (given (record_count list)) (refused_by (paper (bad_record (first_bad list))))

-- The fields as numbers: stn with its blank is one too, low byte first.
abbrev pub told : Fields → Record
told f = record {
  number = f.number;
  station = spelt (padded f.station);
  day = f.day;
  microseconds = f.microseconds;
  ra = f.ra;
  dec = f.dec;
}

-- The answer to a reading: the record's fields, or a refusal.
abbrev pub recorded_paper : Result Record Refusal → Answer Record
recorded_paper (Ok x) = given x
recorded_paper (Err x) = refused_by (paper x)

-- The fields of record n of a list: 20 at its first bad record, 16 where it has no record n, else the fields.
unfoldable pub record_answer : List ℕ → ℕ → Answer Record
record_answer list n =
    cond (eqb (first_bad list) 0)
    (cond (leb 1 n && leb n (record_count list))
    (given (told (fields_of (record_at n list))))
    (refused_by (paper (request NoObservation))))
    (refused_by (paper (bad_record (first_bad list))))
