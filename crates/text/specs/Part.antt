-- Texts compared with each other and with a shape.
use Prim.Native.Char.{code}
use Rattle.std.specs.Prelude.{ℕ, Bool, true, false, cond, ◌&&◌, List, [], ◌∷◌, eqb}
use Rattle.text.specs.Class.{is_digit}

-- The two texts are the same bytes.
unfoldable pub same : List ℕ → List ℕ → Bool
same [] [] = true
same [] (b ∷ t) = false
same (a ∷ s) [] = false
same (a ∷ s) (b ∷ t) = eqb a b && same s t

-- A byte matches a byte of a shape: d stands for any digit, another byte for itself.
abbrev pub matches : ℕ → ℕ → Bool
matches place byte = cond (eqb place (code "d")) (is_digit byte) (eqb place byte)

-- The text starts in the shape.
unfoldable pub starts : List ℕ → List ℕ → Bool
starts [] text = true
starts (place ∷ shape) [] = false
starts (place ∷ shape) (byte ∷ text) = matches place byte && starts shape text
