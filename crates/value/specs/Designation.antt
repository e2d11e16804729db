-- permID, provID and artSat.
use Prim.Native.Char.{code}
use Rattle.std.specs.Prelude.{ℕ, Bool, not, cond, ◌&&◌, ◌||◌, List, eqb, leb, length, get_or, take, drop, Result, Ok, Err}
use Rattle.text.specs.Bytes.{bytes}
use Rattle.text.specs.Class.{is_capital, leading, is_only}
use Rattle.text.specs.Part.{starts}
use Rattle.text.specs.declared.class.Class.TheVariants.{Capital}
use Rattle.refusal.specs.declared.Kind.{Kind}
use Rattle.refusal.specs.declared.Kind.TheVariants.{WrongForm, OutOfRange}
use Rattle.value.specs.Characters.{is_long}
use Rattle.value.specs.Numeral.{digits, is_count, part}
use Rattle.value.specs.declared.Value.{Value}
use Rattle.value.specs.declared.Value.TheVariants.{NoValue}

-- `from` to `to` capitals and nothing else.
unfoldable pub is_capitals : ℕ → ℕ → List ℕ → Bool
is_capitals from to text = is_long from to text && is_only Capital text

-- The text is empty.
abbrev pub is_empty : List ℕ → Bool
is_empty text = eqb (length text) 0

-- Nothing, or a fragment: `-` and one or two capitals.
unfoldable pub is_fragment_or_none : List ℕ → Bool
is_fragment_or_none text = is_empty text || (eqb (get_or text 0 0) (code "-") && is_capitals 1 2 (drop 1 text))

-- The byte is P or D.
abbrev pub is_por_d : ℕ → Bool
is_por_d byte = eqb byte (code "P") || eqb byte (code "D")

-- A numbered comet: 1 to 6 digits, no leading zero, then P or D, then optional fragment.
unfoldable pub is_numbered_comet : List ℕ → Bool
is_numbered_comet text =
    is_count 6 (take (digits text) text) && is_por_d (get_or text (digits text) 0) && is_fragment_or_none (drop 1 (drop (digits text) text))

-- Digits, no leading zero, 1 to 8 of them, 1 to 61,999,999; or a numbered comet.
unfoldable pub perm_id : List ℕ → Result Value Kind
perm_id text =
    cond (is_count 8 text) (cond (leb (part 0 8 text) 61999999) (Ok NoValue) (Err OutOfRange))
    (cond (is_numbered_comet text) (Ok NoValue) (Err WrongForm))

-- A capital A to Z but not I.
abbrev pub is_capital_not_i : ℕ → Bool
is_capital_not_i byte = is_capital byte && not (eqb byte (code "I"))

-- A minor planet: 4 digits, blank, a capital A to Y but not I, a capital A to Z but not I,
-- then optionally a number without leading zero, 1 to 5 digits.
unfoldable pub is_minor_planet : List ℕ → Bool
is_minor_planet text =
    starts (bytes "dddd ") text && is_capital_not_i (get_or text 5 0) && not (eqb (get_or text 5 0) (code "Z")) && is_capital_not_i (get_or text 6 0)
    && (eqb (length text) 7 || is_count 5 (drop 7 text))

-- A number of 1 to 3 digits without leading zero, and an optional fragment, but none after `A/`.
unfoldable pub is_comet_number : Bool → List ℕ → Bool
is_comet_number asteroid text =
    is_count 3 (take (digits text) text) && is_fragment_or_none (drop (digits text) text) && (not asteroid || is_empty (drop (digits text) text))

-- The byte is C, P, D, X or A.
abbrev pub is_comet_letter : ℕ → Bool
is_comet_letter byte = eqb byte (code "C") || is_por_d byte || eqb byte (code "X") || eqb byte (code "A")

-- How many capitals a text starts with.
abbrev pub capitals : List ℕ → ℕ
capitals text = leading Capital text

-- One or two capitals, then the number of a comet.
unfoldable pub is_comet_end : Bool → List ℕ → Bool
is_comet_end asteroid text = is_capitals 1 2 (take (capitals text) text) && is_comet_number asteroid (drop (capitals text) text)

-- A comet: C P D X or A, `/`, 4 digits, blank, then its end.
unfoldable pub is_comet : List ℕ → Bool
is_comet text =
    is_comet_letter (get_or text 0 0) && starts (bytes "/dddd ") (drop 1 text) && is_comet_end (eqb (get_or text 0 0) (code "A")) (drop 7 text)

-- A minor planet, its number 1 to 61,999, or a comet.
unfoldable pub prov_id : List ℕ → Result Value Kind
prov_id text =
    cond (is_minor_planet text) (cond (leb (part 7 5 text) 61999) (Ok NoValue) (Err OutOfRange))
    (cond (is_comet text) (Ok NoValue) (Err WrongForm))

-- 4 digits, `-`, 3 digits, 1 to 3 capitals.
unfoldable pub art_sat : List ℕ → Result Value Kind
art_sat text = cond (starts (bytes "dddd-ddd") text && is_capitals 1 3 (drop 8 text)) (Ok NoValue) (Err WrongForm)
