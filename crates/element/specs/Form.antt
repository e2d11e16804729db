-- The value or the fault of a text as a value of an element.
use Rattle.std.specs.Prelude.{ℕ, Bool, true, false, Result, Ok, Err, List, [], ◌∷◌}
use Rattle.refusal.specs.declared.Kind.{Kind}
use Rattle.refusal.specs.declared.Kind.TheVariants.{WrongForm}
use Rattle.value.specs.Angle.{right_ascension, declination}
use Rattle.value.specs.Centre.{centre}
use Rattle.value.specs.Check.{less_value}
use Rattle.value.specs.Characters.{alphanumeric, free}
use Rattle.value.specs.Covariance.{covariance}
use Rattle.value.specs.Decimal.{decimal, correlation}
use Rattle.value.specs.Designation.{perm_id, prov_id, art_sat}
use Rattle.value.specs.Time.{obs_time}
use Rattle.value.specs.Word.{mode, system, flag}
use Rattle.value.specs.declared.Value.{Value}
use Rattle.element.specs.Table.{form_of}
use Rattle.element.specs.declared.form.Form.{Form}
use Rattle.element.specs.declared.form.Form.TheVariants.{Unknown, PermID, ProvID, ArtSat, Alphanumeric, Free, Mode, System, Centre, Decimal, Correlation, Time, RightAscension, Declination, Flag, Covariance}

-- The rule of each form. A text of no element has the wrong form.
abbrev pub value_in : Form → List ℕ → Result Value Kind
value_in Unknown text = Err WrongForm
value_in PermID text = perm_id text
value_in ProvID text = prov_id text
value_in ArtSat text = art_sat text
value_in (Alphanumeric from to) text = alphanumeric from to text
value_in (Free to) text = free to text
value_in Mode text = mode text
value_in System text = system text
value_in Centre text = centre text
value_in (Decimal width signed) text = decimal width signed text
value_in Correlation text = correlation text
value_in Time text = obs_time text
value_in RightAscension text = right_ascension text
value_in Declination text = declination text
value_in Flag text = flag text
value_in Covariance text = covariance text

-- The value of a text as a value of the element of an index.
unfoldable pub value_of : ℕ → List ℕ → Result Value Kind
value_of index text = value_in (form_of index) text

-- The fault of a text as a value of the element of an index. An empty value means the element is absent: it has none.
unfoldable pub fault_of : ℕ → List ℕ → Result Unit Kind
fault_of index [] = Ok tt
fault_of index (byte ∷ text) = less_value (value_of index (byte ∷ text))

-- Values of this form have a value.
abbrev pub is_valued : Form → Bool
is_valued Unknown = false
is_valued PermID = false
is_valued ProvID = false
is_valued ArtSat = false
is_valued (Alphanumeric from to) = false
is_valued (Free to) = false
is_valued Mode = false
is_valued System = false
is_valued Centre = true
is_valued (Decimal width signed) = true
is_valued Correlation = true
is_valued Time = true
is_valued RightAscension = true
is_valued Declination = true
is_valued Flag = false
is_valued Covariance = true

-- Elements with a value are 10 to 13, 15 to 21, 23, 24, 27, 32 to 36 and 38 to 43: those of a numeric form.
unfoldable pub has_value : ℕ → Bool
has_value index = is_valued (form_of index)
