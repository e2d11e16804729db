-- A point before or after digits leaves their number as it is; a point alone is no decimal.
use Prim.Native.Char.{code}
use Prim.Native.Nat.{ℕ, suc, ◌+◌, ◌<◌}
use mathlib.Core.Path.{◌≡◌, refl, ap}
use mathlib.Core.Bool.{true, false}
use mathlib.Core.List.{List, [], ◌∷◌, ◌++◌}
use native.Mathlib.Omega.{arith}
use lib.Dec.{ltb}
use lib.ListN.{length, length-append}
use lib.Seq.{drop-append_seam}
use borrow.Author.Tests.{eqb-true, lt-ltb, ltb-true, ne_eqb}
use Rattle.text.specs.Class.{is_digit, leading, is_only}
use Rattle.text.specs.Digits.{after, number}
use Rattle.text.specs.declared.class.Class.TheVariants.{Digit}
use Rattle.text.proofs.Bools.{bools, both}
use Rattle.value.specs.Decimal.{is_pointed, is_decimal, places}
use Rattle.value.specs.Numeral.{digits, is_digits}
use Rattle.value.proofs.Numerals.{number_append}

-- The text is a decimal with this whole number and so many places.
pub record DecimalIs (text : List ℕ) (whole count : ℕ) : Type 0 where
  pub form : is_decimal text ≡ true
  pub whole_is : number 0 text ≡ whole
  pub count_is : places text ≡ count

-- A point alone is no decimal.
pub point_alone : is_decimal (code "." ∷ []) ≡ false
unfolding is_decimal is_digits leading is_only
point_alone = refl

-- A point ends the digits before it.
digits_end : (s : List ℕ) → digits s ≡ length s → digits (s ++ (code "." ∷ [])) ≡ length s
unfolding leading
digits_end [] e = refl
digits_end (b ∷ s) e =
    bools (is_digit b)
    (λ q. let z : digits s ≡ length s = omega (arith, rw q at e) in rw q (ap suc (digits_end s z)))
    (λ q. absurd (omega (arith, rw q at e)))

module _ (s : List ℕ) (e : is_digits s ≡ true) where
  only : is_only Digit s ≡ true
  unfolding is_digits
  only = (both (ltb 0 (digits s)) (is_only Digit s) e).1

  all : digits s ≡ length s
  unfolding is_only
  all = eqb-true (digits s) (length s) only

  some : 0 < length s
  unfolding is_digits
  some = omega (arith, ltb-true 0 (digits s) (both (ltb 0 (digits s)) (is_only Digit s) e).0, all)

  before_form : is_decimal (code "." ∷ s) ≡ true
  unfolding is_decimal is_pointed is_digits leading
  before_form = rw (lt-ltb 1 (suc (length s)) (omega (arith, some)), only)

  before_whole : number 0 (code "." ∷ s) ≡ number 0 s
  unfolding number after
  before_whole = refl

  before_count : places (code "." ∷ s) ≡ length s
  unfolding places leading
  before_count = omega arith

  -- A point before digits: all of them are places.
  pub point_before : DecimalIs (code "." ∷ s) (number 0 s) (length s)
  point_before = record { form = before_form; whole_is = before_whole; count_is = before_count }

  abbrev after_text : List ℕ
  after_text = s ++ (code "." ∷ [])

  after_digits : digits after_text ≡ length s
  after_digits = digits_end s all

  after_length : length after_text ≡ length s + 1
  after_length = length-append s (code "." ∷ [])

  after_form : is_decimal after_text ≡ true
  unfolding is_decimal is_pointed is_digits is_only leading
  after_form =
      rw (after_digits, after_length, lt-ltb 0 (length s) some, ne_eqb (length s) (length s + 1) (λ z. omega arith), lt-ltb 1 (length s + 1) (omega (arith, some)), drop-append_seam s (code "." ∷ []))

  after_whole : number 0 after_text ≡ number 0 s
  unfolding number after
  after_whole = number_append 0 s (code "." ∷ [])

  after_count : places after_text ≡ 0
  unfolding places
  after_count = rw (after_digits, after_length) (omega arith)

  -- A point after digits: none of them is a place.
  pub point_after : DecimalIs after_text (number 0 s) 0
  point_after = record { form = after_form; whole_is = after_whole; count_is = after_count }
