-- The values of every element as they were before document 02's order 2, and that whatever was right has its value.
use Prim.Native.Nat.{ℕ}
use mathlib.Core.Path.{◌≡◌, refl, ap, ◌∙◌}
use mathlib.Core.Bool.{true}
use mathlib.Core.List.{List, [], ◌∷◌}
use Rattle.std.specs.Prelude.{Result, Ok, Err, is_ok}
use Rattle.refusal.specs.declared.Kind.{Kind}
use Rattle.value.specs.Check.{less_value}
use Rattle.value.specs.declared.Value.{Value}
use Rattle.value.proofs.Before.{decimal_before, correlation_before, right_ascension_before, declination_before, decimal_kept, correlation_kept, ascension_kept, declination_kept}
use Rattle.element.specs.Form.{value_in, value_of, fault_of}
use Rattle.element.specs.Table.{form_of}
use Rattle.element.specs.declared.form.Form.{Form}
use Rattle.element.specs.declared.form.Form.TheVariants.{Unknown, PermID, ProvID, ArtSat, Alphanumeric, Free, Mode, System, Centre, Decimal, Correlation, Time, RightAscension, Declination, Flag, Covariance}

-- The rule of each form: the order changed those of decimals, rmsCorr, ra and dec.
abbrev pub value_in_before : Form → List ℕ → Result Value Kind
value_in_before Unknown text = value_in Unknown text
value_in_before PermID text = value_in PermID text
value_in_before ProvID text = value_in ProvID text
value_in_before ArtSat text = value_in ArtSat text
value_in_before (Alphanumeric from to) text = value_in (Alphanumeric from to) text
value_in_before (Free to) text = value_in (Free to) text
value_in_before Mode text = value_in Mode text
value_in_before System text = value_in System text
value_in_before Centre text = value_in Centre text
value_in_before (Decimal width signed) text = decimal_before width signed text
value_in_before Correlation text = correlation_before text
value_in_before Time text = value_in Time text
value_in_before RightAscension text = right_ascension_before text
value_in_before Declination text = declination_before text
value_in_before Flag text = value_in Flag text
value_in_before Covariance text = value_in Covariance text

unfoldable pub value_before : ℕ → List ℕ → Result Value Kind
value_before index text = value_in_before (form_of index) text

unfoldable pub fault_before : ℕ → List ℕ → Result Unit Kind
fault_before index [] = Ok tt
fault_before index (byte ∷ text) = less_value (value_before index (byte ∷ text))

-- A text that was right in its form has the value that it had.
form_kept : (form : Form) (text : List ℕ) → is_ok (value_in_before form text) ≡ true → value_in form text ≡ value_in_before form text
form_kept Unknown text e = refl
form_kept PermID text e = refl
form_kept ProvID text e = refl
form_kept ArtSat text e = refl
form_kept (Alphanumeric from to) text e = refl
form_kept (Free to) text e = refl
form_kept Mode text e = refl
form_kept System text e = refl
form_kept Centre text e = refl
form_kept (Decimal width signed) text e = decimal_kept width signed text e
form_kept Correlation text e = correlation_kept text e
form_kept Time text e = refl
form_kept RightAscension text e = ascension_kept text e
form_kept Declination text e = declination_kept text e
form_kept Flag text e = refl
form_kept Covariance text e = refl

-- So it has as a value of its element.
pub value_kept : (index : ℕ) (text : List ℕ) → is_ok (value_before index text) ≡ true → value_of index text ≡ value_before index text
unfolding value_of value_before
value_kept index text = form_kept (form_of index) text

-- What a check finds right is a value.
right_is : (value : Result Value Kind) → less_value value ≡ Ok tt → is_ok value ≡ true
right_is (Ok value) e = refl
right_is (Err kind) e = cc

-- A field without a fault has none now.
pub fault_kept : (index : ℕ) (text : List ℕ) → fault_before index text ≡ Ok tt → fault_of index text ≡ Ok tt
unfolding fault_before fault_of
fault_kept index [] e = refl
fault_kept index (byte ∷ text) e =
    ap less_value (value_kept index (byte ∷ text) (right_is (value_before index (byte ∷ text)) e)) ∙ e
