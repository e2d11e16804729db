-- Laws of a value read off an index.
use Prim.Native.Nat.{ℕ, ◌≤◌, ◌<◌}
use mathlib.Core.Path.{◌≡◌, refl, sym, ap, ◌∙◌}
use mathlib.Core.Bool.{true, false}
use mathlib.Core.List.{List, [], ◌∷◌}
use native.Mathlib.Omega.{arith}
use lib.ListN.{length, get_or, take, drop}
use borrow.Author.Tests.{lt-ltb, le-ltb}
use Rattle.text.proofs.Bools.{bools}
use Rattle.element.specs.Table.{elements}
use Rattle.element.specs.Observation.{Observation, is_present}
use Rattle.element.specs.Set.{has}
use Rattle.element.proofs.Sets.{has_present}
use Rattle.report.specs.Index.{row_at, Noted, is_noted, noted_value}
use Rattle.report.specs.declared.index.Row.{Row}

module _ (t : List ℕ) (rows : List Row) (row element : ℕ) where
  -- Nothing is noted past the last row or the last element, nor of an element that is not in the row's set.
  pub none_row : length rows ≤ row → [] ≡ noted_value t rows row element
  unfolding noted_value is_noted
  none_row h = rw (le-ltb row (length rows) h)

  module _ (inside : row < length rows) where
    pub none_element : elements ≤ element → [] ≡ noted_value t rows row element
    unfolding noted_value is_noted
    none_element h = rw (lt-ltb row (length rows) inside, le-ltb element elements h)

    module _ (known : element < elements) where
      pub none_set : has (row_at rows row).present element ≡ false → [] ≡ noted_value t rows row element
      unfolding noted_value is_noted
      none_set h = rw (lt-ltb row (length rows) inside, lt-ltb element elements known, h)

      pub noted_is : has (row_at rows row).present element ≡ true
          → take (get_or (row_at rows row).lengths element 0) (drop (get_or (row_at rows row).starts element 0) t) ≡ noted_value t rows row element
      unfolding noted_value is_noted
      noted_is h = rw (lt-ltb row (length rows) inside, lt-ltb element elements known, h)

-- A value with no byte is absent.
absent : (v : List ℕ) → is_present v ≡ false → [] ≡ v
absent [] e = refl
absent (b ∷ v) e = absurd (let z : ◌≡◌ {A = ℕ} 0 1 = cc in omega arith)

-- The value that is read off a row in which an observation is noted is the observation's.
pub noted_value_lem : {t : List ℕ} (rows : List Row) (row : ℕ) {o : Observation} {at : List ℕ} → Noted t (row_at rows row) o at → row < length rows
    → (element : ℕ) → element < elements → noted_value t rows row element ≡ get_or o element []
noted_value_lem {t} rows row {o} n h element k =
    bools (is_present (get_or o element []))
    (λ p.
    let s = n.shows element k p in
    sym (noted_is t rows row element h k (is ∙ p)) ∙ rw (s.start_is, s.length_is) s.holds)
    (λ p. sym (none_set t rows row element h k (is ∙ p)) ∙ absent (get_or o element []) p)
  where
    is : has (row_at rows row).present element ≡ is_present (get_or o element [])
    is = ap (λ (set : ℕ). has set element) n.set_is ∙ has_present o element
