-- The specimen of document 01, and its one observation.
use Rattle.std.specs.Prelude.{ℕ, ◌-◌, List, [], set, replicate}
use Rattle.text.specs.Bytes.{bytes}
use Rattle.element.specs.Observation.{Observation}
use Rattle.element.specs.Table.{elements}

-- The specimen, whole, 104 bytes with its three LFs.
abbrev pub specimen : List ℕ
specimen = bytes "# version=2022\ntrkSub|mode|stn|obsTime|ra|dec|astCat\na1|CCD|W84|2024-03-01T04:05:06.5Z|10.5|-0.25|Gaia2\n"

-- An observation with a value of the element of a number.
abbrev pub holding : ℕ → List ℕ → Observation → Observation
holding number value observation = set observation (number - 1) value

-- An observation like the specimen's, with its own trkSub, ra and dec, and the specimen's mode, stn, obsTime and astCat.
abbrev pub like_specimen : List ℕ → List ℕ → List ℕ → Observation
like_specimen trkSub ra dec =
    holding 4 trkSub
    (holding 7 (bytes "CCD")
    (holding 8 (bytes "W84")
    (holding 15 (bytes "2024-03-01T04:05:06.5Z")
    (holding 17 ra
    (holding 18 dec
    (holding 22 (bytes "Gaia2") (replicate elements [])))))))

-- The specimen's observation.
abbrev pub specimen_observation : Observation
specimen_observation = like_specimen (bytes "a1") (bytes "10.5") (bytes "-0.25")
