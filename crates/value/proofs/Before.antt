-- Decimals, ra and dec as they were before document 02's order 2, word for word, and what the order keeps: whatever was right has its value.
use Prim.Native.Char.{code}
use Prim.Native.Nat.{ℕ, zero, suc, ◌+◌, ◌-◌, ◌<◌}
use mathlib.Core.Path.{◌≡◌, refl, sym, ap, ◌∙◌}
use mathlib.Core.Bool.{Bool, true, false, cond, ◌&&◌, ◌||◌}
use mathlib.Core.List.{List}
use native.Mathlib.Omega.{arith}
use lib.Dec.{eqb, leb, ltb}
use lib.IntN.{pos}
use lib.ListN.{length, get_or, drop, length-drop, get_or-eq_default}
use lib.Seq.{get_or-drop}
use borrow.Author.Tests.{eqb-true, eqb-false, lt-ltb, ltb-true, ltb-false}
use Rattle.std.specs.Prelude.{Result, Ok, Err, is_ok}
use Rattle.text.specs.Class.{is_only}
use Rattle.text.specs.Digits.{number}
use Rattle.text.specs.declared.class.Class.TheVariants.{Digit}
use Rattle.text.proofs.Bools.{bools, both, never}
use Rattle.text.proofs.Classes.{leading_le}
use Rattle.refusal.specs.declared.Kind.{Kind}
use Rattle.refusal.specs.declared.Kind.TheVariants.{TooWide, WrongForm, OutOfRange}
use Rattle.value.specs.Angle.{is_degrees, is_right_ascension, units, right_ascension, declination}
use Rattle.value.specs.Decimal.{is_pointed, is_decimal, places, is_too_wide, Range, Any, Positive, Unit, is_within, decimal_of, decimal_in, decimal, correlation}
use Rattle.value.specs.Numeral.{digits, is_digits, no_leading_zero}
use Rattle.value.specs.Sign.{is_minus, bare, with_sign}
use Rattle.value.specs.declared.Value.{Value}
use Rattle.value.specs.declared.Value.TheVariants.{Angle}

-- A point and at least one digit.
unfoldable pub is_pointed_before : List ℕ → Bool
is_pointed_before text = eqb (get_or text 0 0) (code ".") && is_digits (drop 1 text)

-- A decimal was digits, then optionally a point and digits, at least one digit on each side of a point.
unfoldable pub is_decimal_before : List ℕ → Bool
is_decimal_before text = is_digits text || (ltb 0 (digits text) && is_pointed_before (drop (digits text) text))

-- The rules over it.
unfoldable pub decimal_in_before : Range → ℕ → Bool → List ℕ → Result Value Kind
decimal_in_before range width signed text =
    cond (is_too_wide width (bare signed text)) (Err TooWide)
    (cond (is_decimal_before (bare signed text))
    (cond (is_within range (number 0 (bare signed text)) (places (bare signed text)))
    (Ok (decimal_of text (bare signed text)))
    (Err OutOfRange))
    (Err WrongForm))

unfoldable pub decimal_before : ℕ → Bool → List ℕ → Result Value Kind
decimal_before width signed text = decimal_in_before (cond signed Any Positive) width signed text

unfoldable pub correlation_before : List ℕ → Result Value Kind
correlation_before text = decimal_in_before Unit 13 true text

unfoldable pub is_degrees_before : ℕ → List ℕ → Bool
is_degrees_before most text = is_decimal_before text && leb (digits text) most && leb (places text) 9 && (eqb (digits text) 1 || no_leading_zero text)

unfoldable pub is_right_ascension_before : List ℕ → Bool
is_right_ascension_before text = is_degrees_before 3 text && (ltb (digits text) 3 || ltb (get_or text 0 0) (code "4"))

unfoldable pub right_ascension_before : List ℕ → Result Value Kind
right_ascension_before text =
    cond (is_right_ascension_before text)
    (cond (ltb (units text) 360000000000) (Ok (Angle (pos (units text)))) (Err OutOfRange))
    (Err WrongForm)

unfoldable pub declination_before : List ℕ → Result Value Kind
declination_before text =
    cond (is_degrees_before 2 (bare true text))
    (cond (leb (units (bare true text)) 90000000000) (Ok (Angle (with_sign (is_minus text) (units (bare true text))))) (Err OutOfRange))
    (Err WrongForm)

-- A point and at least one digit are a point and digits, and the text has more than a point.
pointed_kept : (text : List ℕ) → is_pointed_before (drop (digits text) text) ≡ true
    → (is_pointed (drop (digits text) text) ≡ true) × (1 < length text)
unfolding is_pointed_before is_pointed is_digits
pointed_kept text e =
    let rest = drop (digits text) text in
    let p = both (eqb (get_or rest 0 0) 46) (is_digits (drop 1 rest)) e in
    let q = both (ltb 0 (digits (drop 1 rest))) (is_only Digit (drop 1 rest)) p.1 in
    let some = ltb-true 0 (digits (drop 1 rest)) q.0 in
    (rw (p.0, q.1), omega (arith, some, leading_le Digit (drop 1 rest), length-drop 1 rest, length-drop (digits text) text))

-- Whatever was a decimal is one.
pub decimal_form_kept : (text : List ℕ) → is_decimal_before text ≡ true → is_decimal text ≡ true
unfolding is_decimal_before is_decimal
decimal_form_kept text e =
    bools (is_digits text)
    (λ q. rw q)
    (λ q.
    let p = both (ltb 0 (digits text)) (is_pointed_before (drop (digits text) text)) (rw q at e) in
    let r = pointed_kept text p.1 in
    rw (q, lt-ltb 1 (length text) r.1, r.0))

-- A number that is not 0 is above it.
above : (n : ℕ) → (n ≡ 0 → ⊥) → 0 < n
above zero h = absurd (h refl)
above (suc n) h = omega arith

-- A point in a text stands before its end.
within : (text : List ℕ) (i : ℕ) → get_or text i 0 ≡ 46 → i < length text
within text i e =
    bools (ltb i (length text))
    (λ q. ltb-true i (length text) q)
    (λ q. let z : 0 ≡ 46 = sym (get_or-eq_default text 0 (ltb-false i (length text) q)) ∙ e in absurd (omega arith))

-- A decimal that neither begins nor ends with its point was one: nothing else has changed.
pub decimal_form_before : (text : List ℕ) → eqb (get_or text 0 0) (code ".") ≡ false → eqb (get_or text (length text - 1) 0) (code ".") ≡ false
    → is_decimal text ≡ true → is_decimal_before text ≡ true
unfolding is_decimal_before is_pointed_before is_decimal is_pointed is_digits is_only
decimal_form_before text first last e =
    bools (is_digits text)
    (λ q. rw q)
    (λ q.
    let d = digits text in
    let after = drop 1 (drop d text) in
    let p = both (ltb 1 (length text)) (is_pointed (drop d text)) (rw q at e) in
    let r = both (eqb (get_or (drop d text) 0 0) 46) (is_only Digit after) p.1 in
    let here : d ≡ d + 0 = omega arith in
    let point : get_or text d 0 ≡ 46 =
    ap (λ (n : ℕ). get_or text n 0) here ∙ (sym (get_or-drop d text 0 0) ∙ eqb-true (get_or (drop d text) 0 0) 46 r.0) in
    let inside : d < length text = within text d point in
    let left : length after ≡ length text - d - 1 = length-drop 1 (drop d text) ∙ ap (λ (n : ℕ). n - 1) (length-drop d text) in
    let whole : digits after ≡ length after = eqb-true (digits after) (length after) r.1 in
    let start : 0 < d = above d (λ z. eqb-false (get_or text 0 0) 46 first (ap (λ (n : ℕ). get_or text n 0) (sym z) ∙ point)) in
    let end : 0 < digits after =
    above (digits after)
    (λ z.
    let y : length text - 1 ≡ d = omega (arith, z, whole, left, inside) in
    eqb-false (get_or text (length text - 1) 0) 46 last (ap (λ (n : ℕ). get_or text n 0) y ∙ point)) in
    rw (q, lt-ltb 0 d start, r.0, lt-ltb 0 (digits after) end, r.1))

-- A test that is passed wherever another is, and a third beside both.
beside : (before now third : Bool) → (before ≡ true → now ≡ true) → before && third ≡ true → now && third ≡ true
beside before now third h e = let p = both before third e in rw (h p.0, p.1)

-- Whatever had the form of degrees has it.
degrees_form_kept : (most : ℕ) (text : List ℕ) → is_degrees_before most text ≡ true → is_degrees most text ≡ true
unfolding is_degrees_before is_degrees
degrees_form_kept most text =
    beside _ _ (eqb (digits text) 1 || no_leading_zero text)
    (beside _ _ (leb (places text) 9) (beside _ _ (leb (digits text) most) (decimal_form_kept text)))

ascension_form_kept : (text : List ℕ) → is_right_ascension_before text ≡ true → is_right_ascension text ≡ true
unfolding is_right_ascension_before is_right_ascension
ascension_form_kept text = beside _ _ (ltb (digits text) 3 || ltb (get_or text 0 0) 52) (degrees_form_kept 3 text)

-- What a right form gave is given where the form is right now.
form_kept : (before now : Bool) (value : Result Value Kind) → (before ≡ true → now ≡ true) → is_ok (cond before value (Err WrongForm)) ≡ true
    → cond now value (Err WrongForm) ≡ cond before value (Err WrongForm)
form_kept true now value h e = rw (h refl)
form_kept false now value h e = never e

-- So it is behind a test that has not changed.
width_kept : (wide before now : Bool) (value : Result Value Kind) → (before ≡ true → now ≡ true)
    → is_ok (cond wide (Err TooWide) (cond before value (Err WrongForm))) ≡ true
    → cond wide (Err TooWide) (cond now value (Err WrongForm)) ≡ cond wide (Err TooWide) (cond before value (Err WrongForm))
width_kept true before now value h e = refl
width_kept false before now value h e = form_kept before now value h e

in_kept : (range : Range) (width : ℕ) (signed : Bool) (text : List ℕ) → is_ok (decimal_in_before range width signed text) ≡ true
    → decimal_in range width signed text ≡ decimal_in_before range width signed text
unfolding decimal_in_before decimal_in
in_kept range width signed text =
    let rest = bare signed text in
    width_kept (is_too_wide width rest) (is_decimal_before rest) (is_decimal rest)
    (cond (is_within range (number 0 rest) (places rest)) (Ok (decimal_of text rest)) (Err OutOfRange)) (decimal_form_kept rest)

-- A text that was right as a decimal, an rmsCorr, a ra or a dec has the value that it had.
pub decimal_kept : (width : ℕ) (signed : Bool) (text : List ℕ) → is_ok (decimal_before width signed text) ≡ true
    → decimal width signed text ≡ decimal_before width signed text
unfolding decimal_before decimal
decimal_kept width signed text = in_kept (cond signed Any Positive) width signed text

pub correlation_kept : (text : List ℕ) → is_ok (correlation_before text) ≡ true → correlation text ≡ correlation_before text
unfolding correlation_before correlation
correlation_kept text = in_kept Unit 13 true text

pub ascension_kept : (text : List ℕ) → is_ok (right_ascension_before text) ≡ true → right_ascension text ≡ right_ascension_before text
unfolding right_ascension_before right_ascension
ascension_kept text =
    form_kept (is_right_ascension_before text) (is_right_ascension text)
    (cond (ltb (units text) 360000000000) (Ok (Angle (pos (units text)))) (Err OutOfRange)) (ascension_form_kept text)

pub declination_kept : (text : List ℕ) → is_ok (declination_before text) ≡ true → declination text ≡ declination_before text
unfolding declination_before declination
declination_kept text =
    let rest = bare true text in
    form_kept (is_degrees_before 2 rest) (is_degrees 2 rest)
    (cond (leb (units rest) 90000000000) (Ok (Angle (with_sign (is_minus text) (units rest)))) (Err OutOfRange)) (degrees_form_kept 2 rest)
