-- The number that the digits of a text make.
use Prim.Native.Char.{code}
use Rattle.std.specs.Prelude.{ℕ, ◌+◌, ◌-◌, ◌*◌, cond, List, [], ◌∷◌}
use Rattle.text.specs.Class.{is_digit}

-- A digit put after the number n; any other byte leaves n.
unfoldable pub after : ℕ → ℕ → ℕ
after n byte = cond (is_digit byte) (n * 10 + (byte - code "0")) n

-- The digits of a text put after the number n, one after the other; bytes that are no digits are left out.
unfoldable pub number : ℕ → List ℕ → ℕ
number n [] = n
number n (byte ∷ text) = number (after n byte) text
