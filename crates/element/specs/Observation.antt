-- What one observation must hold. An observation is the list of its values by index, empty where an element is absent.
use Rattle.std.specs.Prelude.{ℕ, ◌+◌, ◌-◌, ◌*◌, Bool, true, false, not, cond, ◌&&◌, List, [], ◌∷◌, ◌++◌, Result, Ok, Err, eqb, get_or}
use Rattle.std.specs.List.{list_any}
use Rattle.text.specs.Bytes.{bytes}
use Rattle.text.specs.Part.{same}
use Rattle.refusal.specs.declared.Kind.{Kind}
use Rattle.refusal.specs.declared.Kind.TheVariants.{ElementMissing, GroupIncomplete, CentreNotEarth, ElementForeign}
use Rattle.refusal.specs.declared.Fault.{Fault}
use Rattle.refusal.specs.Paper.{at}
use Rattle.element.specs.Set.{has}
use Rattle.element.specs.Table.{upward}

-- The values of an observation, by index.
abbrev pub Observation : Type 0
Observation = List (List ℕ)

-- An empty value means the element is absent.
abbrev pub is_present : List ℕ → Bool
is_present [] = false
is_present (byte ∷ text) = true

-- The value of the element of a number.
abbrev pub value_at : ℕ → Observation → List ℕ
value_at number observation = get_or observation (number - 1) []

-- At least one of the elements of these numbers is held.
unfoldable pub holds_any : List ℕ → (ℕ → Bool) → Bool
holds_any numbers holds = list_any holds numbers

-- The first of these numbers whose element is not held, 0 where all are.
unfoldable pub first_missing : List ℕ → (ℕ → Bool) → ℕ
first_missing [] holds = 0
first_missing (number ∷ numbers) holds = cond (holds number) (first_missing numbers holds) number

-- permID, provID, artSat, trkSub.
abbrev pub identification : List ℕ
identification = 1 ∷ 2 ∷ 3 ∷ 4 ∷ []

-- mode, stn, obsTime, ra, dec, astCat.
abbrev pub needed : List ℕ
needed = 7 ∷ 8 ∷ 15 ∷ 17 ∷ 18 ∷ 22 ∷ []

-- sys, ctr, pos1, pos2, pos3.
abbrev pub location : List ℕ
location = 9 ∷ 10 ∷ 11 ∷ 12 ∷ 13 ∷ []

-- posCov11, posCov12, posCov13, posCov22, posCov23, posCov33.
abbrev pub covariances : List ℕ
covariances = upward 38 6

-- mag, rmsMag, band, photCat, photAp.
abbrev pub photometry : List ℕ
photometry = 23 ∷ 24 ∷ 25 ∷ 26 ∷ 27 ∷ []

-- mag, band.
abbrev pub photometry_needs : List ℕ
photometry_needs = 23 ∷ 25 ∷ []

-- rmsCorr.
abbrev pub correlation : List ℕ
correlation = 21 ∷ []

-- rmsRA, rmsDec.
abbrev pub correlation_needs : List ℕ
correlation_needs = 19 ∷ 20 ∷ []

-- A place where an element is missing is a fault of the kind; at 0 none is missing, and the rest decides.
abbrev pub missing_at : Kind → ℕ → Result Unit Fault → Result Unit Fault
missing_at kind place rest = cond (eqb place 0) rest (Err (at kind place))

-- Where any of a group is held its needs are: the lowest that is missing, or 0.
unfoldable pub group_missing : List ℕ → List ℕ → (ℕ → Bool) → ℕ
group_missing group needs holds = cond (holds_any group holds) (first_missing needs holds) 0

-- Location: elements 9 to 13 all or none, and all where any of 38 to 43 is present. Photometry: if any of 23 to 27 is present, mag and band are.
-- rmsCorr needs rmsRA and rmsDec. With WGS84, ctr is 399.
unfoldable pub group_fault : (ℕ → Bool) → Bool → Bool → Result Unit Fault
group_fault holds wgs84 earth =
    missing_at GroupIncomplete (group_missing (location ++ covariances) location holds)
    (missing_at GroupIncomplete (group_missing photometry photometry_needs holds)
    (missing_at GroupIncomplete (group_missing correlation correlation_needs holds)
    (cond (wgs84 && not earth) (Err (at CentreNotEarth 10)) (Ok tt))))

-- An optical observation: at least one of elements 1 to 4, and all of mode, stn, obsTime, ra, dec, astCat; then the groups.
-- It is 11, identification first, then by element number; 12 for location, photometry, correlation; 13.
unfoldable pub optical_fault : (ℕ → Bool) → Bool → Bool → Result Unit Fault
optical_fault holds wgs84 earth =
    cond (holds_any identification holds)
    (missing_at ElementMissing (first_missing needed holds) (group_fault holds wgs84 earth))
    (Err (at ElementMissing 1))

-- The first of these numbers whose element is held, 0 where none is.
unfoldable pub first_held : List ℕ → (ℕ → Bool) → ℕ
first_held [] holds = 0
first_held (number ∷ numbers) holds = cond (holds number) number (first_held numbers holds)

-- trx, rcv, delay, rmsDelay, doppler, rmsDoppler, frq, com.
abbrev pub radar : List ℕ
radar = upward 30 8

-- permID, provID.
abbrev pub radar_identification : List ℕ
radar_identification = 1 ∷ 2 ∷ []

-- 3, 4, 7 to 13 and 16 to 27 are foreign to a radar observation; with doppler 32 and 33 are, without it 34 and 35.
abbrev pub foreign_below : Bool → List ℕ
foreign_below doppler = 3 ∷ 4 ∷ upward 7 7 ++ (upward 16 12 ++ upward (cond doppler 32 34) 2)

-- So are 38 to 43.
abbrev pub foreign : Bool → List ℕ
foreign doppler = foreign_below doppler ++ covariances

-- obsTime, trx, rcv; with doppler its rms, without it delay and its rms; frq, com.
abbrev pub radar_needed : Bool → List ℕ
radar_needed doppler = 15 ∷ 30 ∷ 31 ∷ upward (cond doppler 34 32) 2 ++ (36 ∷ 37 ∷ [])

-- What a radar observation lacks: 1 where permID and provID are absent, then by element number; 0 where it lacks nothing. Doppler is element 34.
unfoldable pub radar_missing : (ℕ → Bool) → ℕ
radar_missing holds = cond (holds_any radar_identification holds) (first_missing (radar_needed (holds 34)) holds) 1

-- A place where an element is foreign is 22; at 0 none is, and the rest decides.
abbrev pub foreign_at : ℕ → Result Unit Fault → Result Unit Fault
foreign_at place rest = cond (eqb place 0) rest (Err (at ElementForeign place))

-- A radar observation: 22 for the lowest foreign element, then 11 for what it lacks.
unfoldable pub radar_fault : (ℕ → Bool) → Result Unit Fault
radar_fault holds = foreign_at (first_held (foreign (holds 34)) holds) (missing_at ElementMissing (radar_missing holds) (Ok tt))

-- An observation is radar where any of 30 to 37 is present, else optical.
unfoldable pub fault_in : (ℕ → Bool) → Bool → Bool → Result Unit Fault
fault_in holds wgs84 earth = cond (holds_any radar holds) (radar_fault holds) (optical_fault holds wgs84 earth)

-- The element of a number is present in the observation.
abbrev pub is_held : Observation → ℕ → Bool
is_held observation number = is_present (value_at number observation)

-- An observation is radar where any of 30 to 37 is present.
unfoldable pub is_radar : Observation → Bool
is_radar observation = holds_any radar (is_held observation)

-- sys is WGS84.
unfoldable pub is_wgs84 : Observation → Bool
is_wgs84 observation = same (value_at 9 observation) (bytes "WGS84")

-- ctr is 399.
unfoldable pub is_earth : Observation → Bool
is_earth observation = same (value_at 10 observation) (bytes "399")

-- The fault of an observation.
unfoldable pub observation_fault : Observation → Result Unit Fault
observation_fault observation = fault_in (is_held observation) (is_wgs84 observation) (is_earth observation)

-- A test as a bit.
abbrev pub bit : Bool → ℕ
bit test = cond test 1 0

-- The set of the elements that are present, as a number: bit e stands for index e.
unfoldable pub set_of : Observation → ℕ
set_of [] = 0
set_of (value ∷ observation) = set_of observation * 2 + bit (is_present value)

-- The element of a number is in the set.
abbrev pub is_in : ℕ → ℕ → Bool
is_in set number = has set (number - 1)

-- An observation is radar, from the set of its elements.
unfoldable pub is_radar_set : ℕ → Bool
is_radar_set set = holds_any radar (is_in set)

-- The fault of an observation, from the set of its elements.
unfoldable pub set_fault : ℕ → Bool → Bool → Result Unit Fault
set_fault set wgs84 earth = fault_in (is_in set) wgs84 earth
