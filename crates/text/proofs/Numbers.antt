-- Laws of numbers in digits, and of powers of ten.
use Prim.Native.Nat.{ℕ, suc, ◌+◌, ◌*◌, ◌^◌, ◌≤◌, ◌<◌}
use mathlib.Core.Path.{◌≡◌}
use mathlib.Core.List.{List, [], ◌∷◌}
use native.Mathlib.Omega.{arith}
use native.Mathlib.Nat.{pow-suc, pow-le-pow_right, lt_of_lt_of_le, le_of_lt, le_trans, mul-le-mul_right, add-zero}
use native.Mathlib.Numerals.{add-one}
use lib.Dec.{lit<}
use lib.ListN.{length, get_or, take, drop, drop_of_length-le}
use lib.Pow.{pow-add}
use lib.Seq.{drop-cons, take_all}
use Rattle.text.specs.Class.{is_digit}
use Rattle.text.specs.Digits.{after, number}
use Rattle.text.proofs.Bools.{bools}
use Rattle.text.proofs.Classes.{digit_range}

-- One byte more, and the end.
module _ (s : List ℕ) (i n : ℕ) where
  pub number_step : i < length s → number n (drop i s) ≡ number (after n (get_or s i 0)) (drop (i + 1) s)
  unfolding number
  number_step h = rw (drop-cons s i 0, add-one)

  pub number_end : length s ≤ i → number n (drop i s) ≡ n
  unfolding number
  number_end h = rw drop_of_length-le

-- The next power of ten.
pub pow_step : (i : ℕ) → 10 ^ (i + 1) ≡ 10 ^ i * 10
pow_step i = rw (add-one, pow-suc)

-- Powers of ten grow.
pub pow_below : (i j : ℕ) → i ≤ j → 10 ^ i ≤ 10 ^ j
pow_below i j h = pow-le-pow_right {n = 10} (lit< tt) {i = i} {j = j} h

-- A byte more is a digit more at most.
pub after_below : (n b i : ℕ) → n < 10 ^ i → after n b < 10 ^ (i + 1)
unfolding after
after_below n b i h =
    bools (is_digit b) (λ e. rw e (omega (arith, digit_range b e, h, pow_step i))) (λ e. rw e (omega (arith, h, pow_step i)))

-- A count moved from one side of a sum to the other.
one_more : (i k : ℕ) → i + 1 + k ≡ i + suc k
one_more i k = omega arith

-- A text makes a number of no more digits than it has bytes.
pub number_below : (n i : ℕ) (s : List ℕ) → n < 10 ^ i → number n s < 10 ^ (i + length s)
unfolding number
number_below n i [] h = rw add-zero h
number_below n i (b ∷ s) h = rw (← one_more i (length s)) (number_below (after n b) (i + 1) s (after_below n b i h))

-- A text of at most `most` bytes makes a number below that power of ten.
pub number_small : (s : List ℕ) (most : ℕ) → length s ≤ most → number 0 s < 10 ^ most
number_small s most h = lt_of_lt_of_le (number_below 0 0 s (lit< tt)) (pow_below (0 + length s) most (omega arith))

-- The digits among the first 18 bytes are those of a text of at most 18 bytes.
pub number_front : (s : List ℕ) → length s ≤ 18 → number 0 (take 18 s) ≡ number 0 s
number_front s h = rw (take_all 18 s h)

-- A number of few digits, with zeros put after it.
pub number_scaled : (s : List ℕ) (k most : ℕ) → length s + k ≤ most → number 0 s * 10 ^ k ≤ 10 ^ most
number_scaled s k most h =
    le_trans (mul-le-mul_right (10 ^ k) (le_of_lt (number_below 0 0 s (lit< tt))))
    (rw (← pow-add 10 (0 + length s) k) (pow_below (0 + length s + k) most (omega arith)))
