-- The elements in their order: the names and the forms of document 01's table, from 30 on of document 02's order 3, from 38
-- on of its order 5. An element's index is its number less one.
use Rattle.std.specs.Prelude.{ℕ, zero, suc, ◌+◌, true, false, cond, List, [], ◌∷◌, ◌++◌, Option, Some, None, map, ltb, get_or}
use Prim.Native.String.{String}
use Rattle.text.specs.Bytes.{bytes}
use Rattle.text.specs.Part.{same}
use Rattle.element.specs.declared.form.Form.{Form}
use Rattle.element.specs.declared.form.Form.TheVariants.{Unknown, PermID, ProvID, ArtSat, Alphanumeric, Free, Mode, System, Centre, Decimal, Correlation, Time, RightAscension, Declination, Flag, Covariance}

-- How many elements there are.
abbrev pub elements : ℕ
elements = 43

-- An element: its name and its form.
pub record Element : Type 0 where
  pub name : List ℕ
  pub form : Form

infix 4 ◌is◌
-- The element of a quoted name has a form.
abbrev pub ◌is◌ : String → Form → Element
name is form = record { name = bytes name; form = form }

-- The elements, by index.
abbrev pub table : List Element
table =
    ("permID" is PermID) ∷
    ("provID" is ProvID) ∷
    ("artSat" is ArtSat) ∷
    ("trkSub" is Alphanumeric 1 8) ∷
    ("obsID" is Alphanumeric 1 25) ∷
    ("obsSubID" is Free 25) ∷
    ("mode" is Mode) ∷
    ("stn" is Alphanumeric 3 4) ∷
    ("sys" is System) ∷
    ("ctr" is Centre) ∷
    ("pos1" is Decimal 13 true) ∷
    ("pos2" is Decimal 13 true) ∷
    ("pos3" is Decimal 13 true) ∷
    ("prog" is Alphanumeric 1 2) ∷
    ("obsTime" is Time) ∷
    ("rmsTime" is Decimal 8 false) ∷
    ("ra" is RightAscension) ∷
    ("dec" is Declination) ∷
    ("rmsRA" is Decimal 7 false) ∷
    ("rmsDec" is Decimal 7 false) ∷
    ("rmsCorr" is Correlation) ∷
    ("astCat" is Alphanumeric 1 8) ∷
    ("mag" is Decimal 6 true) ∷
    ("rmsMag" is Decimal 6 false) ∷
    ("band" is Alphanumeric 1 3) ∷
    ("photCat" is Alphanumeric 1 8) ∷
    ("photAp" is Decimal 6 false) ∷
    ("notes" is Alphanumeric 1 6) ∷
    ("remarks" is Free 300) ∷
    ("trx" is Alphanumeric 3 4) ∷
    ("rcv" is Alphanumeric 3 4) ∷
    ("delay" is Decimal 14 false) ∷
    ("rmsDelay" is Decimal 6 false) ∷
    ("doppler" is Decimal 14 true) ∷
    ("rmsDoppler" is Decimal 6 false) ∷
    ("frq" is Decimal 14 false) ∷
    ("com" is Flag) ∷
    ("posCov11" is Covariance) ∷
    ("posCov12" is Covariance) ∷
    ("posCov13" is Covariance) ∷
    ("posCov22" is Covariance) ∷
    ("posCov23" is Covariance) ∷
    ("posCov33" is Covariance) ∷
    []

-- The names, by index.
abbrev pub names : List (List ℕ)
names = map (λ element. element.name) table

-- The forms, by index.
abbrev pub forms : List Form
forms = map (λ element. element.form) table

-- So many numbers from one on.
abbrev pub upward : ℕ → ℕ → List ℕ
upward from zero = []
upward from (suc count) = from ∷ upward (suc from) count

-- The elements by index, in the order in which columns are written: element order, but posCov11 to posCov33 follow pos3.
abbrev pub column_order : List ℕ
column_order = upward 0 13 ++ (upward 37 6 ++ upward 13 24)

-- The name of the element of an index, empty past the last element.
abbrev pub name_of : ℕ → List ℕ
name_of index = get_or names index []

-- The form of the element of an index.
abbrev pub form_of : ℕ → Form
form_of index = get_or forms index Unknown

-- The place of a name in a list, from 0; the length of the list where it is not there.
unfoldable pub index_in : List (List ℕ) → List ℕ → ℕ
index_in [] name = 0
index_in (first ∷ rest) name = cond (same name first) 0 (suc (index_in rest name))

-- The index of the element of a name; the number of elements where there is none.
unfoldable pub index_of : List ℕ → ℕ
index_of name = index_in names name

-- An index below the number of elements; none where it is not below it.
abbrev pub found_index : ℕ → Option ℕ
found_index index = cond (ltb index elements) (Some index) None

-- The number of the element of a name, 1 to 43; 0 where there is none.
unfoldable pub element_number : List ℕ → ℕ
element_number name = cond (ltb (index_of name) elements) (index_of name + 1) 0
