-- The night list's answers as plain structs. What a case does not say is 0.
use Rattle.std.specs.Prelude.{ℕ, pos}
use Rattle.refusal.specs.Paper.{Answer, refused_by, absent, given}
use Rattle.night.specs.List.{Done}
use Rattle.night.specs.declared.answer.Record.{Record}
use Rattle.kyrrbolda.specs.declared.night_list.KyrrDone.{KyrrDone}
use Rattle.kyrrbolda.specs.declared.night_list.KyrrNightChecked.{KyrrNightChecked}
use Rattle.kyrrbolda.specs.declared.night_list.KyrrNightRecord.{KyrrNightRecord}

-- The answer of a writing.
abbrev pub plain_done : Answer Done → KyrrDone
plain_done (refused_by x) = record { refused = x.number; line = x.line; place = x.place }
plain_done absent = record { refused = 0; line = 0; place = 0 }
plain_done (given x) = record { refused = 0; line = 0; place = 0 }

-- The answer of a list's check: how many records.
abbrev pub plain_listed : Answer ℕ → KyrrNightChecked
plain_listed (refused_by x) = record { refused = x.number; line = x.line; place = x.place; records = 0 }
plain_listed absent = record { refused = 0; line = 0; place = 0; records = 0 }
plain_listed (given n) = record { refused = 0; line = 0; place = 0; records = n }

-- The answer to a reading: what the record holds.
abbrev pub plain_record : Answer Record → KyrrNightRecord
plain_record (refused_by x) = record {
  refused = x.number;
  line = x.line;
  place = x.place;
  number = 0;
  station = 0;
  day = pos 0;
  microseconds = 0;
  ra = pos 0;
  dec = pos 0;
}
plain_record absent = record {
  refused = 0;
  line = 0;
  place = 0;
  number = 0;
  station = 0;
  day = pos 0;
  microseconds = 0;
  ra = pos 0;
  dec = pos 0;
}
plain_record (given f) = record {
  refused = 0;
  line = 0;
  place = 0;
  number = f.number;
  station = f.station;
  day = f.day;
  microseconds = f.microseconds;
  ra = f.ra;
  dec = f.dec;
}
