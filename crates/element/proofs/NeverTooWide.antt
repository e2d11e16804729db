-- Elements 1 to 3, 7, 9, 15, 17, 18 and 37 never give 8.
use Prim.Native.Nat.{ℕ, ◌-◌}
use mathlib.Core.Path.{◌≡◌}
use mathlib.Core.List.{List, [], ◌∷◌}
use Rattle.std.specs.Prelude.{Err}
use Rattle.refusal.specs.declared.Kind.TheVariants.{TooWide}
use Rattle.value.proofs.TooWide.{perm_id_narrow, prov_id_narrow, art_sat_narrow, mode_narrow, system_narrow, obs_time_narrow, right_ascension_narrow, declination_narrow, flag_narrow}
use Rattle.element.specs.Form.{value_of}

-- No text gives 8 as a value of the element of the number.
abbrev pub Never : ℕ → Type 0
Never number = (text : List ℕ) → value_of (number - 1) text ≡ Err TooWide → ⊥

infixr 4 ◌and◌
-- No text gives 8 as a value of any of the elements of these numbers.
pub data NeverTooWide : List ℕ → Type 0 where
  none : NeverTooWide []
  ◌and◌ : {number : ℕ} {numbers : List ℕ} → Never number → NeverTooWide numbers → NeverTooWide (number ∷ numbers)

-- permID, provID, artSat, mode, sys, obsTime, ra, dec, com.
pub never_too_wide : NeverTooWide (1 ∷ 2 ∷ 3 ∷ 7 ∷ 9 ∷ 15 ∷ 17 ∷ 18 ∷ 37 ∷ [])
unfolding value_of
never_too_wide =
    perm_id_narrow
    and prov_id_narrow
    and art_sat_narrow
    and mode_narrow
    and system_narrow
    and obs_time_narrow
    and right_ascension_narrow
    and declination_narrow
    and flag_narrow
    and none
