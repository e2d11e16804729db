-- Numbers as words say them.
use Rattle.std.specs.Prelude.{ℕ, Option, Some, None, min, cond, ◌&&◌, List, ltb, length}
use Rattle.text.specs.Class.{is_only}
use Rattle.text.specs.Digits.{number}
use Rattle.text.specs.declared.class.Class.TheVariants.{Digit}

-- The largest number that is told apart.
abbrev pub largest : ℕ
largest = 18446744073709551615

-- A word of digits says the number that they make; one past the largest counts as the largest. Any other word says no number.
unfoldable pub number_in : List ℕ → Option ℕ
number_in word = cond (ltb 0 (length word) && is_only Digit word) (Some (min (number 0 word) largest)) None
