-- Laws of tests: a case of each, and what a conjunction or a disjunction tells of its parts.
use mathlib.Core.Path.{◌≡◌, refl, sym, subst}
use mathlib.Core.Bool.{Bool, true, false, ◌&&◌, ◌||◌}
use lib.Dec.{T}

-- By cases on a test.
pub bools {ℓ} : {P : Type ℓ} (t : Bool) → (t ≡ true → P) → (t ≡ false → P) → P
bools true f g = f refl
bools false f g = g refl

-- A test that passes is true.
pub T_true : (b : Bool) → T b → b ≡ true
T_true true t = refl
T_true false t = absurd t

-- No test is both false and true.
pub never {ℓ} : {P : Type ℓ} → false ≡ true → P
never e = absurd (subst T (sym e) tt)

-- Each part of a conjunction that is true.
pub both : (a b : Bool) → a && b ≡ true → (a ≡ true) × (b ≡ true)
both true b e = (refl, e)
both false b e = never e

-- Each part of a disjunction that is false.
pub neither : (a b : Bool) → a || b ≡ false → (a ≡ false) × (b ≡ false)
neither true b e = never (sym e)
neither false b e = (refl, e)
