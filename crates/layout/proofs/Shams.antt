-- The sham packers of document 01, and one that document 02's order 3 brings, as functions from the report to what they write, each with an accepted report where what it writes is
-- not the packed report.
use Prim.Native.Nat.{ℕ, ◌≤◌}
use mathlib.Core.Path.{◌≡◌, refl, sym, ap, ◌∙◌}
use mathlib.Core.Bool.{Bool, true, false, cond}
use mathlib.Core.List.{List, [], ◌∷◌, ◌++◌}
use native.Mathlib.Omega.{arith}
use lib.ListN.{get_or, replicate}
use Rattle.text.specs.Bytes.{bytes}
use Rattle.text.specs.Lines.{line_feed, Lines, end, cut, line, lines}
use Rattle.element.specs.Observation.{Observation}
use Rattle.report.specs.Report.{is_hash, Outcome, accepted, refused, read}
use Rattle.layout.specs.Written.{block_text}
use Rattle.layout.specs.Packed.{PackedIs}
use Rattle.element.specs.Table.{elements}
use Rattle.refusal.specs.declared.Kind.TheVariants.{KindsMixed}
use Rattle.report.specs.Specimen.{specimen, holding, like_specimen, specimen_observation}
use Rattle.report.proofs.Computed.{reading}
use Rattle.report.proofs.Join.{refused≢accepted}
use Rattle.layout.proofs.Computed.{writing}
use Rattle.layout.proofs.ReadsBack.{empty_reads}
use Rattle.layout.proofs.Unique.{packed_reads, packed_least}
use Rattle.layout.proofs.SpecimenPacks.{specimen_reads}

-- An accepted report where what the sham writes is not the packed report.
pub record Caught (sham : List ℕ → List ℕ) : Type 0 where
  pub report : List ℕ
  pub observations : List Observation
  pub reads : read report ≡ accepted observations
  pub fails : PackedIs observations (sham report) → ⊥

-- The observations that a report is accepted with.
abbrev observations_in : Outcome → List Observation
observations_in (accepted observations) = observations
observations_in (refused refusal) = []

-- Hands back the specimen always.
pub specimen_always : List ℕ → List ℕ
specimen_always report = specimen

-- A report like the specimen.
abbrev another : List ℕ
another = bytes "# version=2022\ntrkSub|mode|stn|obsTime|ra|dec|astCat\na2|CCD|W84|2024-03-01T04:05:06.5Z|10.5|-0.25|Gaia2\n"

-- Its observation.
abbrev another_observation : Observation
another_observation = like_specimen (bytes "a2") (bytes "10.5") (bytes "-0.25")

another_reads : read another ≡ accepted (another_observation ∷ [])
unfolding reading
another_reads = refl

-- The specimen does not read as another report's observation.
pub specimen_always_lem : Caught specimen_always
unfolding specimen_always
specimen_always_lem = record {
  report = another;
  observations = another_observation ∷ [];
  reads = another_reads;
  fails = λ p. let q : accepted (specimen_observation ∷ []) ≡ accepted (another_observation ∷ []) = sym specimen_reads ∙ packed_reads p in
      let z : ◌≡◌ {A = ℕ} 49 50 = cc in omega arith;
}

-- Writes nothing.
pub nothing_written : List ℕ → List ℕ
nothing_written report = []

-- The empty text does not read as the specimen's.
pub nothing_written_lem : Caught nothing_written
unfolding nothing_written
nothing_written_lem = record {
  report = specimen;
  observations = specimen_observation ∷ [];
  reads = specimen_reads;
  fails = λ p. let q : accepted [] ≡ accepted (specimen_observation ∷ []) = sym empty_reads ∙ packed_reads p in let z : ◌≡◌ {A = ℕ} 0 1 = cc in omega arith;
}

-- Copies its input.
pub input_copied : List ℕ → List ℕ
input_copied report = report

-- The specimen with a blank after a value.
abbrev padded : List ℕ
padded = bytes "# version=2022\ntrkSub|mode|stn|obsTime|ra|dec|astCat\na1 |CCD|W84|2024-03-01T04:05:06.5Z|10.5|-0.25|Gaia2\n"

padded_reads : read padded ≡ accepted (specimen_observation ∷ [])
unfolding reading
padded_reads = refl

-- The specimen is shorter.
pub input_copied_lem : Caught input_copied
unfolding input_copied
input_copied_lem = record {
  report = padded;
  observations = specimen_observation ∷ [];
  reads = padded_reads;
  fails = λ p. let b : 105 ≤ 104 = packed_least p specimen specimen_reads in omega arith;
}

-- The bytes of lines.
unfoldable text_of : Lines → List ℕ
text_of end = []
text_of (cut l) = l
text_of (line l ls) = l ++ (line_feed ∷ text_of ls)

-- The bytes of the lines before the next version line.
unfoldable rest_of_block : Lines → List ℕ
rest_of_block end = []
rest_of_block (cut l) = l
rest_of_block (line l ls) = cond (is_hash l) [] (l ++ (line_feed ∷ rest_of_block ls))

-- The first block.
unfoldable first_block : Lines → List ℕ
first_block end = []
first_block (cut l) = l
first_block (line l ls) = l ++ (line_feed ∷ rest_of_block ls)

-- The lines from the next version line on.
unfoldable from_next : Lines → Lines
from_next end = end
from_next (cut l) = end
from_next (line l ls) = cond (is_hash l) (line l ls) (from_next ls)

-- The lines after the first block.
unfoldable later_blocks : Lines → Lines
later_blocks end = end
later_blocks (cut l) = end
later_blocks (line l ls) = from_next ls

-- The data lines: a version line is left out, and so is the line after it.
unfoldable data_alone : Bool → Lines → List ℕ
data_alone skip end = []
data_alone skip (cut l) = l
data_alone true (line l ls) = data_alone false ls
data_alone false (line l ls) = cond (is_hash l) (data_alone true ls) (l ++ (line_feed ∷ data_alone false ls))

-- The first block laid out well.
unfoldable first_well : List ℕ → List ℕ
first_well report = block_text (observations_in (read (first_block (lines report))))

-- Lays out the first block well and copies the remaining rows under it.
pub copied_under : List ℕ → List ℕ
copied_under report = first_well report ++ data_alone false (later_blocks (lines report))

-- A second block that names dec before ra.
abbrev turned : List ℕ
turned =
    specimen ++ bytes "# version=2022\ntrkSub|mode|stn|obsTime|dec|ra|astCat\na2|CCD|W84|2024-03-01T04:05:06.5Z|20.5|10.5|Gaia2\n"

-- Its rows.
abbrev turned_rows : List Observation
turned_rows = specimen_observation ∷ like_specimen (bytes "a2") (bytes "10.5") (bytes "20.5") ∷ []

-- What they read as under the first block's columns.
abbrev misread_rows : List Observation
misread_rows = specimen_observation ∷ like_specimen (bytes "a2") (bytes "20.5") (bytes "10.5") ∷ []

turned_reads : read turned ≡ accepted turned_rows
unfolding reading
turned_reads = refl

under_reads : read (copied_under turned) ≡ accepted misread_rows
unfolding copied_under reading writing first_well first_block rest_of_block later_blocks from_next data_alone
under_reads = refl

-- The first byte of the second row's ra.
abbrev byte_of_ra : Outcome → ℕ
byte_of_ra outcome = get_or (get_or (get_or (observations_in outcome) 1 []) 16 []) 0 0

-- What it writes reads as other observations.
pub copied_under_lem : Caught copied_under
copied_under_lem = record {
  report = turned;
  observations = turned_rows;
  reads = turned_reads;
  fails = λ p. let z : ◌≡◌ {A = ℕ} 50 49 = ap byte_of_ra (sym under_reads ∙ packed_reads p) in omega arith;
}

-- Lays out the first block well and copies the remaining rows in blocks as they came.
pub copied_blocks : List ℕ → List ℕ
copied_blocks report = first_well report ++ text_of (later_blocks (lines report))

-- Two blocks with the same columns.
abbrev parted : List ℕ
parted = specimen ++ another

-- Their rows in one block.
abbrev joined : List ℕ
joined = specimen ++ bytes "a2|CCD|W84|2024-03-01T04:05:06.5Z|10.5|-0.25|Gaia2\n"

parted_reads : read parted ≡ accepted (specimen_observation ∷ another_observation ∷ [])
unfolding reading
parted_reads = refl

joined_reads : read joined ≡ accepted (specimen_observation ∷ another_observation ∷ [])
unfolding reading
joined_reads = refl

blocks_are : copied_blocks parted ≡ parted
unfolding copied_blocks reading writing first_well first_block rest_of_block later_blocks from_next text_of
blocks_are = refl

-- The rows in one block are shorter.
pub copied_blocks_lem : Caught copied_blocks
copied_blocks_lem = record {
  report = parted;
  observations = specimen_observation ∷ another_observation ∷ [];
  reads = parted_reads;
  fails = λ p. let b : 208 ≤ 155 = rw blocks_are at (packed_least p joined joined_reads) in omega arith;
}

-- Joins kinds: puts every row into one block.
pub kinds_joined : List ℕ → List ℕ
kinds_joined report = block_text (observations_in (read report))

-- The specimen, and a block of one radar observation.
abbrev both_kinds : List ℕ
both_kinds =
    specimen
    ++ bytes "# version=2022\npermID|obsTime|trx|rcv|doppler|rmsDoppler|frq|com\n433|2024-03-01T04:05:06.5Z|253|251|-12.5|.1|2380|1\n"

-- Its radar observation.
abbrev radar_observation : Observation
radar_observation =
    holding 1 (bytes "433")
    (holding 15 (bytes "2024-03-01T04:05:06.5Z")
    (holding 30 (bytes "253")
    (holding 31 (bytes "251")
    (holding 34 (bytes "-12.5")
    (holding 35 (bytes ".1")
    (holding 36 (bytes "2380")
    (holding 37 (bytes "1") (replicate elements []))))))))

kinds_read : read both_kinds ≡ accepted (specimen_observation ∷ radar_observation ∷ [])
unfolding reading
kinds_read = refl

joined_refused : read (kinds_joined both_kinds) ≡ refused (record { kind = KindsMixed; line = 4; place = 0 })
unfolding kinds_joined reading writing
joined_refused = refl

-- What it writes is no report: 21.
pub kinds_joined_lem : Caught kinds_joined
kinds_joined_lem = record {
  report = both_kinds;
  observations = specimen_observation ∷ radar_observation ∷ [];
  reads = kinds_read;
  fails = λ p. refused≢accepted (sym joined_refused ∙ packed_reads p);
}
