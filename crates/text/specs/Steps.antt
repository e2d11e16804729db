-- What private functions over lines and fields promise each other. A reviewer of the rules can skip this file.
use Rattle.std.specs.Prelude.{ℕ, suc, ◌+◌, ◌≤◌, ◌≡◌, List, [], ◌∷◌, Bool, true, false, cond, not, ◌&&◌, ◌||◌, length, drop, get_or, eqb}
use Rattle.text.specs.Lines.{bar, blank, line_feed, printable, up_to, first_line, fields}

-- How many bars a text has.
abbrev pub bars_in : List ℕ → ℕ
bars_in [] = 0
bars_in (b ∷ t) = cond (eqb b bar) 1 0 + bars_in t

-- The mark is among the bytes.
abbrev pub holds : ℕ → List ℕ → Bool
holds mark [] = false
holds mark (b ∷ t) = eqb b mark || holds mark t

-- A field has no blank at either end.
unfoldable pub is_tight : List ℕ → Bool
is_tight [] = true
is_tight (b ∷ t) = not (eqb b blank) && not (eqb (get_or (b ∷ t) (length t) 0) blank)

-- A pass over the first line that stands at i: what is left of it comes to the same.
pub record Scanning (s : List ℕ) (right : Bool) (parts i : ℕ) : Type 0 where
  pub within : i ≤ length s
  pub few : parts ≤ suc i
  pub size : up_to line_feed s ≡ i + up_to line_feed (drop i s)
  pub all : printable (first_line s) ≡ right && printable (first_line (drop i s))
  pub count : suc (length (fields (first_line s))) ≡ parts + length (fields (first_line (drop i s)))
