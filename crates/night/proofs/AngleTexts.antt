-- Written degrees are valued at the units that they were written from.
use Prim.Native.Nat.{ℕ, zero, suc, ◌+◌, ◌*◌, ◌/◌, ◌%◌, ◌^◌, ◌≤◌, ◌<◌}
use mathlib.Core.Path.{◌≡◌, refl, ap, ◌∙◌}
use mathlib.Core.Bool.{true, false, ◌||◌}
use mathlib.Core.List.{List, [], ◌∷◌}
use native.Mathlib.Omega.{arith}
use Rattle.std.specs.Prelude.{Ok}
use lib.Dec.{eqb, ltb}
use lib.IntN.{ℤ, pos, negsuc}
use lib.ListN.{length, get_or, drop}
use borrow.Author.Tests.{le-leb, lt-ltb, ne_eqb, ltb-true, ltb-false}
use Rattle.text.specs.Class.{is_only, leading}
use Rattle.text.specs.Digits.{after, number}
use Rattle.text.specs.declared.class.Class.TheVariants.{Digit}
use Rattle.text.proofs.Bools.{bools}
use Rattle.value.specs.Angle.{is_degrees, is_right_ascension, units, right_ascension, declination}
use Rattle.value.specs.Decimal.{is_pointed, is_decimal, places}
use Rattle.value.specs.Numeral.{digits, is_digits, no_leading_zero}
use Rattle.value.specs.Sign.{is_minus, bare, with_sign}
use Rattle.value.specs.declared.Value.TheVariants.{Angle}
use Rattle.element.proofs.Names.{every, is_name_byte}
use Rattle.night.proofs.Spell.{digit, spell, spell_short, degrees_text, signed_text}
use Rattle.night.proofs.Within.{Declination}
use Rattle.night.proofs.SpellLaws.{digit_low, spell_number, spell_leading, spell_length, spell_solid, Solid}

-- After its digits the text goes on.
spell_drop : (count n j : ℕ) (t : List ℕ) → drop (count + j) (spell count n t) ≡ drop j t
unfolding spell
spell_drop zero n j t = ap (λ (k : ℕ). drop k t) (let z : 0 + j ≡ j = omega arith in z)
spell_drop (suc count) n j t =
    ap (λ (k : ℕ). drop k (spell count (n / 10) (digit n ∷ t))) (let z : suc count + j ≡ count + suc j = omega arith in z)
    ∙ spell_drop count (n / 10) (suc j) (digit n ∷ t)

-- Nine places.
abbrev nine : ℕ → List ℕ
nine f = 46 ∷ spell 9 f []

-- A text of k digits, a point and nine places.
module _ (k w f : ℕ) (some : 0 < k) (small : w < 10 ^ k) (least : f < 1000000000) where
  k_digits : digits (spell k w (nine f)) ≡ k
  unfolding leading
  k_digits = spell_leading k w (nine f) ∙ (let z : k + 0 ≡ k = omega arith in z)

  nine_digits : digits (spell 9 f []) ≡ 9
  unfolding leading
  nine_digits = spell_leading 9 f []

  k_long : length (spell k w (nine f)) ≡ k + 10
  k_long = spell_length k w (nine f) ∙ ap (λ (n : ℕ). k + suc n) (spell_length 9 f [])

  nine_are : is_only Digit (spell 9 f []) ≡ true
  unfolding is_only
  nine_are = rw (nine_digits, spell_length 9 f [])

  after_point : drop k (spell k w (nine f)) ≡ nine f
  after_point = ap (λ (n : ℕ). drop n (spell k w (nine f))) (let z : k ≡ k + 0 = omega arith in z) ∙ spell_drop k w 0 (nine f)

  k_places : places (spell k w (nine f)) ≡ 9
  unfolding places
  k_places = rw (k_digits, k_long) (omega arith)

  k_decimal : is_decimal (spell k w (nine f)) ≡ true
  unfolding is_decimal is_digits is_only is_pointed
  k_decimal =
      rw (k_digits, k_long, lt-ltb 0 k some, ne_eqb k (k + 10) (λ e. omega arith), lt-ltb 1 (k + 10) (omega arith), after_point) nine_are

  k_number : number 0 (spell k w (nine f)) ≡ w * 1000000000 + f
  unfolding number after
  k_number = spell_number k 0 w (nine f) small ∙ (spell_number 9 (0 * 10 ^ k + w) f [] least ∙ omega arith)

  k_units : units (spell k w (nine f)) ≡ w * 1000000000 + f
  unfolding units
  k_units = rw (k_places, k_number) (omega arith)

  k_degrees : (most : ℕ) → k ≤ most → eqb k 1 || no_leading_zero (spell k w (nine f)) ≡ true → is_degrees most (spell k w (nine f)) ≡ true
  unfolding is_degrees
  k_degrees most h e = rw (k_decimal, k_digits, k_places, le-leb k most h) e

-- What is said of degrees as they are written.
record Written (text : List ℕ) (u : ℕ) : Type 0 where
  pub count : ℕ
  pub three : count ≤ 3
  pub two : u < 100000000000 → count ≤ 2
  pub digits_are : digits text ≡ count
  pub units_are : units text ≡ u
  pub degrees : (most : ℕ) → count ≤ most → is_degrees most text ≡ true
  pub below_four : u < 400000000000 → ltb count 3 || ltb (get_or text 0 0) 52 ≡ true
  pub low : 48 ≤ get_or text 0 0
  pub long : length text ≡ count + 10
  pub solid : every is_name_byte text ≡ true

module _ (u : ℕ) where
  abbrev w : ℕ
  w = u / 1000000000

  abbrev f : ℕ
  f = u % 1000000000

  module _ (k : ℕ) (some : 1 ≤ k) (three : k ≤ 3) (small : w < 10 ^ k) (two : u < 100000000000 → k ≤ 2)
      (lead : eqb k 1 || no_leading_zero (spell k w (nine f)) ≡ true)
      (four : u < 400000000000 → ltb k 3 || ltb (get_or (spell k w (nine f)) 0 0) 52 ≡ true)
      (low : 48 ≤ get_or (spell k w (nine f)) 0 0) where
    least : f < 1000000000
    least = omega arith

    written_as : Written (spell k w (nine f)) u
    written_as = record {
      count = k;
      three = three;
      two = two;
      digits_are = k_digits k w f some small least;
      units_are = k_units k w f some small least ∙ omega arith;
      degrees = λ most b. k_degrees k w f some small least most b lead;
      below_four = four;
      low = low;
      long = k_long k w f some small least;
      solid = spell_solid k w (nine f) ∙ spell_solid 9 f [];
    }

  -- A digit above 0, and one below 4.
  digit_above : (n : ℕ) → 1 ≤ n → n ≤ 9 → no_leading_zero (digit n ∷ []) ≡ true
  unfolding digit
  digit_above n h k = rw (ne_eqb (48 + n % 10) 48 (λ e. omega arith))

  digit_four : (n : ℕ) → n ≤ 3 → ltb (digit n) 52 ≡ true
  unfolding digit
  digit_four n h = lt-ltb (48 + n % 10) 52 (omega arith)

  one_digit : w < 10 → Written (spell 1 w (nine f)) u
  unfolding spell
  one_digit h = written_as 1 (omega arith) (omega arith) h (λ b. omega arith) refl (λ b. refl) (digit_low w)

  two_digits : 10 ≤ w → w < 100 → Written (spell 2 w (nine f)) u
  unfolding spell
  two_digits l h =
      written_as 2 (omega arith) (omega arith) h (λ b. omega arith) (digit_above (w / 10) (omega arith) (omega arith)) (λ b. refl) (digit_low (w / 10))

  three_digits : 100 ≤ w → w < 1000 → Written (spell 3 w (nine f)) u
  unfolding spell
  three_digits l h =
      written_as 3 (omega arith) (omega arith) h (λ b. absurd (omega arith)) (digit_above (w / 10 / 10) (omega arith) (omega arith))
      (λ b. digit_four (w / 10 / 10) (omega arith)) (digit_low (w / 10 / 10))

  -- Degrees below 1,000 are written so.
  written : u < 1000000000000 → Written (degrees_text u) u
  unfolding degrees_text spell_short
  written h =
      bools (ltb w 10)
      (λ a. rw a (one_digit (ltb-true w 10 a)))
      (λ a. bools (ltb w 100)
      (λ b. rw (a, b) (two_digits (ltb-false w 10 a) (ltb-true w 100 b)))
      (λ b. rw (a, b) (three_digits (ltb-false w 100 b) (omega arith))))

-- Written right ascensions have their value.
pub ascension_value : (u : ℕ) → u < 360000000000 → right_ascension (degrees_text u) ≡ Ok (Angle (pos u))
unfolding right_ascension is_right_ascension
ascension_value u h =
    let r = written u (omega arith) in
    rw (r.degrees 3 r.three, r.digits_are, r.below_four (omega arith), r.units_are, lt-ltb u 360000000000 h)

-- A text that starts with a digit has no sign.
unsigned : (text : List ℕ) → 48 ≤ get_or text 0 0 → (bare true text ≡ text) × (is_minus text ≡ false)
unfolding bare
unsigned text h =
    let p : eqb (get_or text 0 0) 43 ≡ false = ne_eqb (get_or text 0 0) 43 (λ e. omega arith) in
    let m : eqb (get_or text 0 0) 45 ≡ false = ne_eqb (get_or text 0 0) 45 (λ e. omega arith) in
    (rw (p, m), m)

-- So have declinations.
pub signed_value : (z : ℤ) → Declination z → declination (signed_text z) ≡ Ok (Angle z)
unfolding declination signed_text with_sign bare
signed_value (pos u) h =
    let r = written u (omega arith) in
    let q = unsigned (degrees_text u) r.low in
    rw (q.0, q.1, r.degrees 2 (r.two (omega arith)), r.units_are, le-leb u 90000000000 h)
signed_value (negsuc u) h =
    let r = written (suc u) (omega arith) in
    rw (r.degrees 2 (r.two (omega arith)), r.units_are, le-leb (suc u) 90000000000 h)

-- Written degrees have at most 13 bytes, declinations 14, none of them a blank.
pub degrees_solid : (u : ℕ) → u < 1000000000000 → Solid 13 (degrees_text u)
degrees_solid u h = let r = written u h in record { some = omega (arith, r.long); few = omega (arith, r.long, r.three); solid = r.solid }

pub signed_solid : (z : ℤ) → Declination z → Solid 14 (signed_text z)
unfolding signed_text
signed_solid (pos u) h = let r = degrees_solid u (omega arith) in record { some = r.some; few = omega (arith, r.few); solid = r.solid }
signed_solid (negsuc u) h =
    let r = degrees_solid (suc u) (omega arith) in record { some = omega arith; few = omega (arith, r.few); solid = r.solid }
