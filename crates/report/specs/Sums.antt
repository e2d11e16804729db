-- Document 01's sums marked P, as one table, and those of document 02's orders 2, 3 and 5, a table each. Those about values stand in the element
-- crate's tables.
use Rattle.std.specs.Prelude.{ℕ, List, [], ◌∷◌, ◌++◌, pos}
use Prim.Native.String.{String}
use Rattle.text.specs.Bytes.{bytes}
use Rattle.refusal.specs.Paper.{Answer, refused_by, given}
use Rattle.value.specs.Paper.{time}
use Rattle.element.specs.Sums.{Sum, ◌gives◌, value_sums, point_value_sums, radar_value_sums, covariance_value_sums}
use Rattle.report.specs.Report.{accepted, read}
use Rattle.report.specs.Answers.{checked_answer, valued_answer}
use Rattle.report.specs.Specimen.{specimen, like_specimen}

-- P1, P2, P3; P4 to P10; P11, P12. obsTime is element 15.
unfoldable pub sums : List Sum
sums =
    (checked_answer (read []) gives given 0) ∷
    (checked_answer (read specimen) gives given 1) ∷
    (valued_answer (read specimen) 1 15 gives given (time (pos 60370) 14706500000)) ∷
    value_sums ++
    (checked_answer (read (bytes "# version=2022\ntrkSub|mode|stn|sys|ctr|pos1|pos2|pos3|obsTime|ra|dec|astCat\na1|CCD|W84|WGS84|398|1|2|3|2024-03-01T04:05:06.5Z|10.5|-0.25|Gaia2\n"))
    gives refused_by (record { number = 13; line = 3; place = 10 })) ∷
    (checked_answer (read (bytes "# version=2022\ntrkSub|mode|stn|obsTime|ra|dec|astCat|mag\na1|CCD|W84|2024-03-01T04:05:06.5Z|10.5|-0.25|Gaia2|19.5\n"))
    gives refused_by (record { number = 12; line = 3; place = 25 })) ∷
    []

-- Order 2: a report reads with its bare points as they stand.
unfoldable pub point_sums : List Sum
point_sums =
    point_value_sums ++
    (read (bytes "# version=2022\ntrkSub|mode|stn|obsTime|ra|dec|astCat\na1|CCD|W84|2024-03-01T04:05:06.5Z|.5|90.|Gaia2\n")
    gives accepted (like_specimen (bytes "a1") (bytes ".5") (bytes "90.") ∷ [])) ∷
    []

-- What a check of a quoted report answers.
abbrev pub checked : String → Answer ℕ
checked text = checked_answer (read (bytes text))

-- A refusal by its number, line and place.
abbrev pub refusal : ℕ → ℕ → ℕ → Answer ℕ
refusal number line place = refused_by (record { number = number; line = line; place = place })

-- Order 3: a radar observation; one with stn, with photAp, with delay beside doppler; one without permID and provID, without delay and doppler,
-- without com; a radar row after an optical one; a radar column without values in an optical block.
unfoldable pub radar_sums : List Sum
radar_sums =
    radar_value_sums ++
    (checked "# version=2022\npermID|obsTime|trx|rcv|doppler|rmsDoppler|frq|com\n433|2024-03-01T04:05:06.5Z|253|251|-12.5|.1|2380|1\n" gives given 1) ∷
    (checked "# version=2022\npermID|stn|obsTime|trx|rcv|doppler|rmsDoppler|frq|com\n433|W84|2024-03-01T04:05:06.5Z|253|251|-12.5|.1|2380|1\n"
    gives refusal 22 3 8) ∷
    (checked "# version=2022\npermID|photAp|trx\n433|5.5|253\n" gives refusal 22 3 27) ∷
    (checked "# version=2022\npermID|obsTime|trx|rcv|delay|doppler|rmsDoppler|frq|com\n433|2024-03-01T04:05:06.5Z|253|251|4.2|-12.5|.1|2380|1\n"
    gives refusal 22 3 32) ∷
    (checked "# version=2022\nobsTime|trx|rcv|doppler|rmsDoppler|frq|com\n2024-03-01T04:05:06.5Z|253|251|-12.5|.1|2380|1\n" gives refusal 11 3 1) ∷
    (checked "# version=2022\npermID|obsTime|trx|rcv|frq|com\n433|2024-03-01T04:05:06.5Z|253|251|2380|1\n" gives refusal 11 3 32) ∷
    (checked "# version=2022\npermID|obsTime|trx|rcv|doppler|rmsDoppler|frq\n433|2024-03-01T04:05:06.5Z|253|251|-12.5|.1|2380\n" gives refusal 11 3 37) ∷
    (checked "# version=2022\npermID|mode|stn|obsTime|ra|dec|astCat|trx|rcv|doppler|rmsDoppler|frq|com\n433|CCD|W84|2024-03-01T04:05:06.5Z|10.5|-0.25|Gaia2||||||\n433|||2024-03-01T04:05:06.5Z||||253|251|-12.5|.1|2380|1\n"
    gives refusal 21 4 0) ∷
    (checked "# version=2022\npermID|mode|stn|obsTime|ra|dec|astCat|trx\n433|CCD|W84|2024-03-01T04:05:06.5Z|10.5|-0.25|Gaia2|\n" gives given 1) ∷
    []

-- Order 5: a covariance with the whole location group, alone, with the group less one, before a fault of photometry; one in a radar observation, one
-- that is too wide.
unfoldable pub covariance_sums : List Sum
covariance_sums =
    covariance_value_sums ++
    (checked "# version=2022\ntrkSub|mode|stn|sys|ctr|pos1|pos2|pos3|posCov11|obsTime|ra|dec|astCat\na1|CCD|247|WGS84|399|1|2|3|1e-6|2024-03-01T04:05:06.5Z|10.5|-0.25|Gaia2\n"
    gives given 1) ∷
    (checked "# version=2022\ntrkSub|mode|stn|posCov33|obsTime|ra|dec|astCat\na1|CCD|247|1e-6|2024-03-01T04:05:06.5Z|10.5|-0.25|Gaia2\n" gives refusal 12 3 9) ∷
    (checked "# version=2022\ntrkSub|mode|stn|sys|ctr|pos1|pos3|posCov11|obsTime|ra|dec|astCat|mag\na1|CCD|247|WGS84|399|1|3|1e-6|2024-03-01T04:05:06.5Z|10.5|-0.25|Gaia2|19.5\n"
    gives refusal 12 3 12) ∷
    (checked "# version=2022\npermID|trx|posCov12\n433|253|1e-6\n" gives refusal 22 3 39) ∷
    (checked "# version=2022\npermID|posCov11\n433|123456789012345678e23\n" gives refusal 8 3 2) ∷
    []
