-- Laws of numbers in digits: what the digits are, how many there are, the number that they make.
use Prim.Native.Nat.{ℕ, zero, suc, ◌+◌, ◌*◌, ◌/◌, ◌%◌, ◌^◌, ◌≤◌, ◌<◌}
use mathlib.Core.Path.{◌≡◌, refl, ap, sym, ◌∙◌}
use mathlib.Core.Bool.{true, false, not, ◌&&◌}
use mathlib.Core.List.{List, [], ◌∷◌}
use native.Mathlib.Nat.{pow-suc, mul_assoc}
use native.Mathlib.Omega.{arith}
use lib.Dec.{leb, eqb}
use lib.ListN.{length}
use borrow.Author.Tests.{le-leb, leb-true, ne_eqb}
use Rattle.text.specs.Class.{is_digit, leading}
use Rattle.text.specs.Digits.{after, number}
use Rattle.text.specs.Lines.{drop_trail, before, trim}
use Rattle.text.specs.Part.{starts}
use Rattle.text.specs.declared.class.Class.TheVariants.{Digit}
use Rattle.text.proofs.Bools.{both}
use Rattle.layout.proofs.FieldLaws.{is_clean}
use Rattle.element.proofs.Names.{every, is_name_byte}
use Rattle.night.proofs.Spell.{digit, spell}

-- The range of a digit.
pub digit_low : (n : ℕ) → 48 ≤ digit n
unfolding digit
digit_low n = omega arith

pub digit_high : (n : ℕ) → digit n ≤ 57
unfolding digit
digit_high n = omega arith

-- It is a digit.
digit_is : (n : ℕ) → is_digit (digit n) ≡ true
digit_is n = rw (le-leb 48 (digit n) (digit_low n), le-leb (digit n) 57 (digit_high n))

-- Put after a number.
after_digit : (m n : ℕ) → after m (digit n) ≡ m * 10 + n % 10
unfolding after digit
after_digit m n = rw (le-leb 48 (48 + n % 10) (omega arith), le-leb (48 + n % 10) 57 (omega arith)) (omega arith)

-- The number that the digits make.
pub spell_number : (count m n : ℕ) (t : List ℕ) → n < 10 ^ count → number m (spell count n t) ≡ number (m * 10 ^ count + n) t
unfolding spell number
spell_number zero m n t h = ap (λ (x : ℕ). number x t) (let z : m ≡ m * 1 + n = omega arith in z)
spell_number (suc count) m n t h =
    let e : 10 ^ suc count ≡ 10 ^ count * 10 = pow-suc 10 count in
    let i = spell_number count m (n / 10) (digit n ∷ t) (omega arith) in
    let q : m * 10 ^ suc count ≡ m * 10 ^ count * 10 = ap (λ (x : ℕ). m * x) e ∙ sym (mul_assoc m (10 ^ count) 10) in
    let z : (m * 10 ^ count + n / 10) * 10 + n % 10 ≡ m * 10 ^ suc count + n = omega arith in
    i ∙ ap (λ (x : ℕ). number x t) (after_digit (m * 10 ^ count + n / 10) n ∙ z)

-- Alone they make the number itself.
pub spell_is : (count n : ℕ) → n < 10 ^ count → number 0 (spell count n []) ≡ n
unfolding number
spell_is count n h = spell_number count 0 n [] h ∙ omega arith

-- How many digits a text starts with.
pub spell_leading : (count n : ℕ) (t : List ℕ) → leading Digit (spell count n t) ≡ count + leading Digit t
unfolding spell leading
spell_leading zero n t = omega arith
spell_leading (suc count) n t = spell_leading count (n / 10) (digit n ∷ t) ∙ rw (digit_is n) (omega arith)

-- How long it is.
pub spell_length : (count n : ℕ) (t : List ℕ) → length (spell count n t) ≡ count + length t
unfolding spell
spell_length zero n t = omega arith
spell_length (suc count) n t = spell_length count (n / 10) (digit n ∷ t) ∙ omega arith

-- A shape with digits.
abbrev pub places : ℕ → List ℕ → List ℕ
places zero shape = shape
places (suc count) shape = places count (100 ∷ shape)

pub spell_starts : (count n : ℕ) (shape t : List ℕ) → starts (places count shape) (spell count n t) ≡ starts shape t
unfolding spell starts
spell_starts zero n shape t = refl
spell_starts (suc count) n shape t = spell_starts count (n / 10) (100 ∷ shape) (digit n ∷ t) ∙ rw (digit_is n)

-- Bytes that can stand in a value, none of them a blank.
pub spell_solid : (count n : ℕ) (t : List ℕ) → every is_name_byte (spell count n t) ≡ every is_name_byte t
unfolding spell
spell_solid zero n t = refl
spell_solid (suc count) n t =
    let low = digit_low n in
    let high = digit_high n in
    spell_solid count (n / 10) (digit n ∷ t)
    ∙ rw (le-leb 33 (digit n) (omega arith), le-leb (digit n) 126 (omega arith), ne_eqb (digit n) 124 (λ e. omega arith))

-- A text of some bytes, at most so many, which can stand in a value and of which none is a blank.
pub record Solid (most : ℕ) (text : List ℕ) : Type 0 where
  pub some : 0 < length text
  pub few : length text ≤ most
  pub solid : every is_name_byte text ≡ true

-- A text without blanks has none at its ends.
solid_byte : (b : ℕ) → is_name_byte b ≡ true → eqb b 32 ≡ false
solid_byte b h =
    let low : 33 ≤ b = leb-true 33 b (both (leb 33 b) (leb b 126) (both (leb 33 b && leb b 126) (not (eqb b 124)) h).0).0 in
    ne_eqb b 32 (λ e. omega arith)

solid_trail : (t : List ℕ) → every is_name_byte t ≡ true → drop_trail t ≡ t
solid_trail [] h = refl
solid_trail (b ∷ t) h =
    let p = both (is_name_byte b) (every is_name_byte t) h in
    rw (solid_trail t p.1) (go t (solid_byte b p.0))
  where
    go : (u : List ℕ) → eqb b 32 ≡ false → before b u ≡ b ∷ u
    go [] e = rw e
    go (x ∷ u) e = refl

pub solid_trim : (t : List ℕ) → every is_name_byte t ≡ true → trim t ≡ t
solid_trim [] h = refl
solid_trim (b ∷ t) h =
    let p = both (is_name_byte b) (every is_name_byte t) h in
    rw (solid_byte b p.0) (solid_trail (b ∷ t) h)

-- It is clean.
pub solid_clean : (t : List ℕ) → every is_name_byte t ≡ true → is_clean t ≡ true
unfolding is_clean
solid_clean [] h = refl
solid_clean (b ∷ t) h =
    let p = both (is_name_byte b) (every is_name_byte t) h in
    let q = both (leb 33 b && leb b 126) (not (eqb b 124)) p.0 in
    let r = both (leb 33 b) (leb b 126) q.0 in
    let low : 33 ≤ b = leb-true 33 b r.0 in
    rw (le-leb 32 b (omega arith), r.1, q.1) (solid_clean t p.1)
