-- Laws of numbers in digits that stop at the largest.
use Prim.Native.Nat.{ℕ, ◌≤◌, ◌<◌, min}
use mathlib.Core.Path.{◌≡◌, ◌∙◌, refl}
use mathlib.Core.List.{List, [], ◌∷◌}
use native.Mathlib.Omega.{arith}
use lib.Dec.{ltb}
use borrow.Author.Tests.{ltb-true, ltb-false}
use Rattle.std.specs.List.{fold}
use Rattle.text.specs.Class.{is_digit}
use Rattle.text.specs.Digits.{after, number}
use Rattle.text.proofs.Bools.{bools}
use Rattle.words.specs.Numbers.{largest}

-- A digit more makes no number smaller, and so do the digits of a text.
after_grows : (n b : ℕ) → n ≤ after n b
unfolding after
after_grows n b = bools (is_digit b) (λ e. rw e (omega arith)) (λ e. rw e (omega arith))

grows : (n : ℕ) (text : List ℕ) → n ≤ number n text
unfolding number
grows n [] = omega arith
grows n (b ∷ text) = omega (arith, after_grows n b, grows (after n b) text)

-- From the largest on, digits change nothing.
pub stays : (n m : ℕ) (text : List ℕ) → m ≡ min n largest → min (number m text) largest ≡ min (number n text) largest
stays n m text e =
    bools (ltb largest n)
    (λ more. let h : largest < n = ltb-true _ _ more in omega (arith, grows n text, grows m text))
    (λ few. let h : n ≤ largest = ltb-false _ _ few in let s : m ≡ n = omega arith in rw s)

-- Digits put one after the other, at most the largest each time, come to the number that they make, at most the largest.
pub fold_is : (n : ℕ) (text : List ℕ) → n ≤ largest → fold (λ n b. min (after n b) largest) n text ≡ min (number n text) largest
unfolding number
fold_is n [] h = omega arith
fold_is n (b ∷ text) h =
    fold_is (min (after n b) largest) text (omega arith) ∙ stays (after n b) (min (after n b) largest) text refl
