-- The documents' sums, as tables of equations. These tables have those about values: document 01's P4 to P10, and document 02's orders 2, 3 and 5.
use Prim.Native.String.{String}
use Rattle.std.specs.Prelude.{◌≡◌, true, false, List, [], ◌∷◌, pos, neg_ℤ}
use Rattle.text.specs.Bytes.{bytes}
use Rattle.value.specs.Paper.{no_value, decimal, time, angle, scaled, PaperValue, fault, right, paper_value}
use Rattle.element.specs.Form.{value_of}
use Rattle.element.specs.Table.{index_of}

infix 4 ◌gives◌
-- A sum: what is worked out, and what it gives.
pub data Sum : Type 1 where
  ◌gives◌ : {A : Type 0} → A → A → Sum

-- The sum is right.
unfoldable pub IsRight : Sum → Type 0
IsRight (sum gives result) = sum ≡ result

-- Every sum of a table is right.
unfoldable pub AreRight : List Sum → Type 0
AreRight [] = Unit {0}
AreRight (sum ∷ sums) = IsRight sum × AreRight sums

-- A quoted text as a value of the element of a quoted name.
abbrev pub value : String → String → PaperValue
value name text = paper_value (value_of (index_of (bytes name)) (bytes text))

-- P4 to P10.
unfoldable pub value_sums : List Sum
value_sums =
    (value "obsTime" "1858-11-16T00:00:00Z" gives right (time (neg_ℤ (pos 1)) 0)) ∷
    (value "obsTime" "2023-02-29T00:00:00Z" gives fault 10) ∷
    (value "ra" "359.999999999" gives right (angle (pos 359999999999))) ∷
    (value "ra" "360" gives fault 10) ∷
    (value "ra" "005" gives fault 9) ∷
    (value "dec" "-0.25" gives right (angle (neg_ℤ (pos 250000000)))) ∷
    (value "dec" "90.000000001" gives fault 10) ∷
    (value "dec" "-90" gives right (angle (neg_ℤ (pos 90000000000)))) ∷
    (value "provID" "2016 AZ6" gives right no_value) ∷
    (value "provID" "2016 AI6" gives fault 9) ∷
    []

-- Order 2: a point before or after the digits, or alone.
unfoldable pub point_value_sums : List Sum
point_value_sums =
    (value "mag" "12." gives right (decimal (pos 12) 0)) ∷
    (value "mag" ".5" gives right (decimal (pos 5) 1)) ∷
    (value "mag" "-.5" gives right (decimal (neg_ℤ (pos 5)) 1)) ∷
    (value "mag" "." gives fault 9) ∷
    (value "mag" "+" gives fault 9) ∷
    (value "mag" "-" gives fault 9) ∷
    (value "mag" "+." gives fault 9) ∷
    (value "mag" "-." gives fault 9) ∷
    (value "mag" "123456" gives right (decimal (pos 123456) 0)) ∷
    (value "mag" "123456." gives fault 8) ∷
    (value "rmsMag" "0." gives fault 10) ∷
    (value "rmsMag" ".0" gives fault 10) ∷
    (value "rmsCorr" "-1." gives right (decimal (neg_ℤ (pos 1)) 0)) ∷
    (value "ra" ".5" gives right (angle (pos 500000000))) ∷
    (value "ra" "360." gives fault 10) ∷
    (value "ra" "00." gives fault 9) ∷
    (value "ra" "." gives fault 9) ∷
    (value "dec" "90." gives right (angle (pos 90000000000))) ∷
    (value "dec" "-.5" gives right (angle (neg_ℤ (pos 500000000)))) ∷
    (value "ctr" "399." gives fault 9) ∷
    (value "obsTime" "2024-03-01T04:05:06.Z" gives fault 9) ∷
    []

-- Order 3: station codes, delay, Doppler and its error, frequency, the flag.
unfoldable pub radar_value_sums : List Sum
radar_value_sums =
    (value "trx" "253" gives right no_value) ∷
    (value "rcv" "25" gives fault 8) ∷
    (value "delay" "4.2" gives right (decimal (pos 42) 1)) ∷
    (value "delay" "-4.2" gives fault 9) ∷
    (value "delay" "0" gives fault 10) ∷
    (value "doppler" "-12.5" gives right (decimal (neg_ℤ (pos 125)) 1)) ∷
    (value "rmsDoppler" "1234567" gives fault 8) ∷
    (value "frq" "2380." gives right (decimal (pos 2380) 0)) ∷
    (value "com" "0" gives right no_value) ∷
    (value "com" "1" gives right no_value) ∷
    (value "com" "2" gives fault 10) ∷
    (value "com" "00" gives fault 10) ∷
    []

-- Order 5: decimal and exponential forms, zero, twenty digits and twenty-one bytes, and what has neither form.
unfoldable pub covariance_value_sums : List Sum
covariance_value_sums =
    (value "posCov11" "1.50e3" gives right (scaled false 0 150 (pos 1))) ∷
    (value "posCov12" "1e005" gives right (scaled false 0 1 (pos 5))) ∷
    (value "posCov13" "1.E+5" gives right (scaled false 0 1 (pos 5))) ∷
    (value "posCov22" ".5e-3" gives right (scaled false 0 5 (neg_ℤ (pos 4)))) ∷
    (value "posCov23" "-0e5" gives right (scaled false 0 0 (pos 5))) ∷
    (value "posCov33" "-12.5" gives right (scaled true 0 125 (neg_ℤ (pos 1)))) ∷
    (value "posCov11" "99999999999999999999" gives right (scaled false 9999999999 9999999999 (pos 0))) ∷
    (value "posCov11" "-99999999999999999999" gives right (scaled true 9999999999 9999999999 (pos 0))) ∷
    (value "posCov11" "10000000000" gives right (scaled false 1 0 (pos 0))) ∷
    (value "posCov11" "100000000000000000000" gives fault 8) ∷
    (value "posCov11" "not a number, 21 long" gives fault 8) ∷
    (value "posCov11" "1e" gives fault 9) ∷
    (value "posCov11" "1e+" gives fault 9) ∷
    (value "posCov11" "e5" gives fault 9) ∷
    (value "posCov11" "1e1234" gives fault 9) ∷
    (value "posCov11" "1e5." gives fault 9) ∷
    (value "posCov11" "1ee5" gives fault 9) ∷
    (value "posCov11" ".e5" gives fault 9) ∷
    (value "posCov11" "+" gives fault 9) ∷
    []
