-- When two observations are the same.
use Rattle.std.specs.Prelude.{ℕ, ◌≤◌, ◌≡◌, true}
use Rattle.element.specs.Observation.{Observation, value_at, is_held}
use Rattle.element.specs.Table.{elements}

-- The same elements are present with the same value bytes: the element of each number is present in both or in neither,
-- and where it is present its value is the same bytes.
pub record Same (left right : Observation) : Type 0 where
  pub present : (number : ℕ) → 1 ≤ number → number ≤ elements → is_held left number ≡ is_held right number
  pub bytes : (number : ℕ) → 1 ≤ number → number ≤ elements → is_held left number ≡ true → value_at number left ≡ value_at number right
