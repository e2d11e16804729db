-- Signs before numbers.
use Prim.Native.Char.{code}
use Rattle.std.specs.Prelude.{ℕ, Bool, cond, ◌&&◌, ◌||◌, List, eqb, ℤ, pos, neg_ℤ, get_or, drop}

-- The text starts with a minus.
abbrev pub is_minus : List ℕ → Bool
is_minus text = eqb (get_or text 0 0) (code "-")

-- The text starts with a plus or a minus.
abbrev pub is_signed : List ℕ → Bool
is_signed text = eqb (get_or text 0 0) (code "+") || is_minus text

-- The text less one sign before it, where a sign is allowed.
unfoldable pub bare : Bool → List ℕ → List ℕ
bare signed text = drop (cond (signed && is_signed text) 1 0) text

-- The number, below zero after a minus.
unfoldable pub with_sign : Bool → ℕ → ℤ
with_sign minus number = cond minus (neg_ℤ (pos number)) (pos number)
