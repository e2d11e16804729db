-- What the private functions of the night list promise each other. A reviewer of the promises can skip this file.
use Rattle.std.specs.Prelude.{ℕ, ◌+◌, ◌*◌, ◌≡◌, Bool, cond, ◌&&◌, List, eqb, leb, ltb, length}
use Rattle.std.specs.Int.{w32, w64}
use Rattle.std.proofs.Common.{to_z}
use Rattle.refusal.specs.Paper.{paper, request, Answer, refused_by, given}
use Rattle.refusal.specs.declared.Kind.TheVariants.{NoObservation, NotOptical, ListTooShort}
use Rattle.element.specs.Form.{value_of}
use Rattle.report.specs.Report.{read, row_limit}
use Rattle.report.specs.Index.{noted_value}
use Rattle.report.specs.declared.index.Row.{Row}
use Rattle.night.specs.Record.{Fields, fields_from, spelt_at, is_station, is_day, is_ascension, is_declination}
use Rattle.night.specs.List.{record_size, Done, done, written_answer, list_after}
use Rattle.night.specs.declared.answer.Record.{Record}

-- What writing promises, of an answer and the list after it.
abbrev pub Writes : List ℕ → ℕ → List ℕ → Answer Done → List ℕ → Type 0
Writes report n list answer after = (answer ≡ written_answer (read report) n list) × (after ≡ list_after (read report) n list)

-- The fields of the observation that a row of an index notes.
abbrev pub noted_fields : List ℕ → List Row → ℕ → ℕ → Fields
noted_fields report rows row number =
    fields_from number
    (noted_value report rows row 7)
    (value_of 14 (noted_value report rows row 14))
    (value_of 16 (noted_value report rows row 16))
    (value_of 17 (noted_value report rows row 17))

-- What writing answers, of a report of so many observations to a list of so many bytes, where the observation is radar or not.
abbrev pub place_answer : ℕ → Bool → ℕ → ℕ → Answer Done
place_answer count radar number room =
    cond (leb 1 number && leb number count)
    (cond radar
    (refused_by (paper (request NotOptical)))
    (cond (leb (number * record_size) room) (given done) (refused_by (paper (request ListTooShort)))))
    (refused_by (paper (request NoObservation)))

-- What a record's bytes hold, as code reads them.
abbrev pub numbers_of : List ℕ → Record
numbers_of bytes = record {
  number = spelt_at 0 4 bytes + 1;
  station = spelt_at 4 4 bytes;
  day = to_z w32 (spelt_at 8 4 bytes);
  microseconds = spelt_at 12 8 bytes;
  ra = to_z w64 (spelt_at 20 8 bytes);
  dec = to_z w64 (spelt_at 28 8 bytes);
}

-- The bytes are as many as a record has, with zeros at the end.
abbrev pub is_whole : List ℕ → Bool
is_whole bytes = eqb (length bytes) record_size && eqb (spelt_at 36 4 bytes) 0

-- The numbers and the station lie where an accepted observation's do.
abbrev pub is_within_numbers : Record → List ℕ → Bool
is_within_numbers r station =
    leb 1 r.number && leb r.number row_limit && is_station station && is_day r.day && ltb r.microseconds 86400000000
    && is_ascension r.ra && is_declination r.dec
