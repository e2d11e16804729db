-- `value::covariance::power` meets its contract.
use Prim.Native.Nat.{ℕ}
use lib.IntN.{pos}
use denote.Ref.{Bor}
use mathlib.Core.List.{List}
use mathlib.Core.Path.{◌∙◌, ◌≡◌, ap, refl}
use mir.Facts.{to_z-of_z, to_z_pos}
use mir.Syntax.{w64}
use mir.Val.{of_z, to_z}
use native.Mathlib.Omega.{arith}
use Rattle.value.proofs.Scaled.{PowerIs, power_is, exponent_is}
use Rattle.value.specs.Decimal.{places}
use Rattle.value.proofs.covariance.power.Goals as goal
use Rattle.value.proofs.covariance.power.Goals.{After-places}

-- The signed exponent and the places, before the difference.
worked : (c : After-places)
    → PowerIs c.args.text.now c.with_sign-signed.result c.places.result
worked c =
    let text = c.args.text.now in
    let half = ap (λ (b : Bor (List ℕ)). b.now) c.unwrap_or-exponent.ensures ∙ exponent_is text c.halves.result.1 _ refl c.halves.ensures.after in
    power_is text c.with_sign-signed.result c.places.result c.requires.0 c.requires.1
    (c.with_sign-signed.ensures ∙ rw (c.is_minus.ensures, c.number.ensures, half))
    (c.places.ensures ∙ ap places (c.of.ensures ∙ c.halves.ensures.before))

-- The numbers of the code are these.
exponent-back : (c : After-places) → to_z w64 (of_z w64 c.with_sign-signed.result) ≡ c.with_sign-signed.result
exponent-back c = to_z-of_z {w = w64} (record { sfits = c.with_sign-signed.type_inv })

places-back : (c : After-places) → to_z w64 c.places.result ≡ pos c.places.result
places-back c = to_z_pos w64 (omega (arith, (worked c).few))

pub overflow_cast-result : goal.overflow_cast-result
overflow_cast-result c = record { sfits = omega (arith, (worked (goal.at.overflow_cast-result c).After-places).few) }

pub returns : goal.returns
returns c = rw (exponent-back (goal.at.returns c).After-places, places-back (goal.at.returns c).After-places) (to_z-of_z (worked (goal.at.returns c).After-places).fits ∙ (worked (goal.at.returns c).After-places).is)

pub overflow_sub-result : goal.overflow_sub-result
overflow_sub-result c = rw (exponent-back (goal.at.overflow_sub-result c).After-places, places-back (goal.at.overflow_sub-result c).After-places) (worked (goal.at.overflow_sub-result c).After-places).fits
