-- Words out of a list. A mode or sys word outside the list is 10, and so is a flag other than 0 or 1.
use Rattle.std.specs.Prelude.{ℕ, Bool, false, cond, ◌||◌, List, [], ◌∷◌, map, Result, Ok, Err}
use denote.Ref.{Bor}
use Rattle.text.specs.Bytes.{bytes}
use Rattle.text.specs.Part.{same}
use Rattle.refusal.specs.declared.Kind.{Kind}
use Rattle.refusal.specs.declared.Kind.TheVariants.{OutOfRange}
use Rattle.value.specs.declared.Value.{Value}
use Rattle.value.specs.declared.Value.TheVariants.{NoValue}

-- The text is one of the words.
abbrev pub is_one_of : List (List ℕ) → List ℕ → Bool
is_one_of [] text = false
is_one_of (word ∷ words) text = same text word || is_one_of words text

-- What is lent, in order.
abbrev pub borrowed : List (Bor (List ℕ)) → List (List ℕ)
borrowed words = map (λ (word : Bor (List ℕ)). word.now) words

-- One of the words, without a value.
abbrev pub word_of : List (List ℕ) → List ℕ → Result Value Kind
word_of words text = cond (is_one_of words text) (Ok NoValue) (Err OutOfRange)

-- The modes: 000's examples, closed.
abbrev pub modes : List (List ℕ)
modes =
    bytes "PHO" ∷
    bytes "ENC" ∷
    bytes "CCD" ∷
    bytes "MER" ∷
    bytes "MIC" ∷
    bytes "NOR" ∷
    bytes "VID" ∷
    bytes "PMT" ∷
    []

-- PHO ENC CCD MER MIC NOR VID PMT.
unfoldable pub mode : List ℕ → Result Value Kind
mode text = word_of modes text

-- The systems of a location, in capitals.
abbrev pub systems : List (List ℕ)
systems = bytes "WGS84" ∷ bytes "ITRF" ∷ bytes "IAU" ∷ bytes "ICRF_AU" ∷ bytes "ICRF_KM" ∷ []

-- WGS84 ITRF IAU ICRF_AU ICRF_KM.
unfoldable pub system : List ℕ → Result Value Kind
system text = word_of systems text

-- The flags.
abbrev pub flags : List (List ℕ)
flags = bytes "0" ∷ bytes "1" ∷ []

-- 0 or 1, without a value.
unfoldable pub flag : List ℕ → Result Value Kind
flag text = word_of flags text
