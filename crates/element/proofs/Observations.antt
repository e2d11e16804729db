-- Laws of searches among element numbers, each in the form that a loop asks for, and of identification.
use Prim.Native.Nat.{ℕ, zero, suc, ◌+◌, ◌-◌, ◌*◌, ◌/◌, ◌%◌, ◌^◌, ◌<◌}
use mathlib.Core.Path.{◌≡◌, refl, sym, ap, ◌∙◌}
use mathlib.Core.Bool.{Bool, true, false, not, cond, ◌||◌}
use mathlib.Core.List.{List, [], ◌∷◌, ◌++◌}
use native.Mathlib.Nat.{pow-suc, div-div-eq-div-mul}
use native.Mathlib.Omega.{arith}
use lib.Arith.{mod-mul}
use lib.Dec.{eqb, lit<}
use lib.ListN.{get_or}
use mir.Syntax.{w64}
use mir.Val.{Fits}
use Rattle.std.specs.Prelude.{Option, Some, None, Result, Ok, Err, MatchOption, find}
use Rattle.std.specs.List.{list_any}
use Rattle.std.specs.Option.{option_or}
use Rattle.std.proofs.lemmas.List.Folds.{find-append}
use Rattle.refusal.specs.declared.Fault.{Fault}
use Rattle.refusal.specs.Paper.{at}
use Rattle.refusal.specs.declared.Kind.{Kind}
use Rattle.refusal.specs.declared.Kind.TheVariants.{ElementMissing}
use borrow.Author.Tests.{eq-eqb, ne_eqb, eqb-true, eqb-false}
use Rattle.text.specs.Numbered.{numbered}
use Rattle.text.proofs.Bools.{never, bools}
use Rattle.element.specs.Table.{upward}
use Rattle.element.specs.Observation.{Observation, is_held, is_in, is_radar, is_radar_set, is_wgs84, is_earth, holds_any, first_held, first_missing}
use Rattle.element.specs.Observation.{identification, radar, radar_identification, radar_needed, radar_missing, covariances, group_missing, foreign, missing_at, foreign_at}
use Rattle.element.specs.Observation.{optical_fault, radar_fault, fault_in, observation_fault}

-- All numbers of a list are counted from 1.
abbrev Counted : List ℕ → Type 0
Counted [] = Unit
Counted (zero ∷ numbers) = ⊥
Counted (suc n ∷ numbers) = Counted numbers

-- Among such numbers the first whose element is held, or missing.
module _ (holds : ℕ → Bool) where
  pub held_is : (numbers : List ℕ) → Counted numbers → find holds numbers ≡ numbered (first_held numbers holds)
  unfolding first_held
  held_is [] e = refl
  held_is (zero ∷ numbers) e = absurd e
  held_is (suc n ∷ numbers) e = bools (holds (suc n)) (λ t. rw t) (λ t. rw t (held_is numbers e))

  pub missing_is : (numbers : List ℕ) → Counted numbers → find (λ n. not (holds n)) numbers ≡ numbered (first_missing numbers holds)
  unfolding first_missing
  missing_is [] e = refl
  missing_is (zero ∷ numbers) e = absurd e
  missing_is (suc n ∷ numbers) e = bools (holds (suc n)) (λ t. rw t (missing_is numbers e)) (λ t. rw t)

  pub group_is : (group needs : List ℕ) → Counted needs
      → cond (list_any holds group) (find (λ n. not (holds n)) needs) None ≡ numbered (group_missing group needs holds)
  unfolding group_missing holds_any
  group_is group needs e = bools (list_any holds group) (λ t. rw t (missing_is needs e)) (λ t. rw t)

-- What a fault at a place makes of the rest: it stands where there is a place, else the rest decides.
pub fault_stands : (kind : Kind) (place : ℕ) (rest : Result Unit Fault) (found : Option ℕ) (r : Result Unit Fault) (e : Fault)
    → found ≡ numbered place → MatchOption found (r ≡ Ok tt) (λ n. r ≡ Err (at kind n)) → r ≡ Err e → Err e ≡ missing_at kind place rest
fault_stands kind zero rest None r e is m h = cc
fault_stands kind zero rest (Some n) r e is m h = cc
fault_stands kind (suc p) rest None r e is m h = cc
fault_stands kind (suc p) rest (Some n) r e is m h = rw (ne_eqb (suc p) 0 (λ z. omega arith)) (let same : n ≡ suc p = cc in rw (← same) (cc))

pub fault_none : (kind : Kind) (place : ℕ) (rest : Result Unit Fault) (found : Option ℕ) (r : Result Unit Fault) (u : Unit)
    → found ≡ numbered place → MatchOption found (r ≡ Ok tt) (λ n. r ≡ Err (at kind n)) → r ≡ Ok u → rest ≡ missing_at kind place rest
fault_none kind zero rest found r u is m h = refl
fault_none kind (suc p) rest None r u is m h = cc
fault_none kind (suc p) rest (Some n) r u is m h = cc

pub fault_is : (kind : Kind) (place : ℕ) (found : Option ℕ) (r : Result Unit Fault)
    → found ≡ numbered place → MatchOption found (r ≡ Ok tt) (λ n. r ≡ Err (at kind n)) → r ≡ missing_at kind place (Ok tt)
fault_is kind place found (Ok u) is m = fault_none kind place (Ok tt) found (Ok u) u is m refl
fault_is kind place found (Err e) is m = fault_stands kind place (Ok tt) found (Err e) e is m refl

-- One of the elements of neighbouring numbers is in a set where one of their bits is set.
bits_any : (count from set : ℕ) → holds_any (upward (suc from) count) (is_in set) ≡ not (eqb (set / 2 ^ from % 2 ^ count) 0)
unfolding holds_any
bits_any zero from set = let none : set / 2 ^ from % 1 ≡ 0 = omega arith in rw none
bits_any (suc count) from set =
    let x = set / 2 ^ from in
    let number : suc from - 1 ≡ from = omega arith in
    let half : set / 2 ^ suc from ≡ x / 2 = ap (λ (n : ℕ). set / n) (pow-suc 2 from) ∙ sym (div-div-eq-div-mul set (2 ^ from) 2) in
    let whole : x % 2 ^ suc count ≡ x / 2 % 2 ^ count * 2 + x % 2 =
    ap (λ (n : ℕ). x % n) (pow-suc 2 count) ∙ mod-mul x (pow_pos 2 count) (lit< tt) in
    rw (number, bits_any count (suc from) set, half, whole) (either (x % 2) (x / 2 % 2 ^ count) (omega arith))
  where
    pow_pos : (base n : ℕ) → 0 < 2 ^ n
    pow_pos base zero = lit< tt
    pow_pos base (suc n) = omega (arith, pow-suc 2 n, pow_pos base n)

    either : (bit rest : ℕ) → bit < 2 → (eqb bit 1 || not (eqb rest 0)) ≡ not (eqb (rest * 2 + bit) 0)
    either zero rest h =
        bools (eqb rest 0)
        (λ e. rw (e, eq-eqb (rest * 2 + 0) 0 (omega (arith, eqb-true rest 0 e))))
        (λ e. rw (e, ne_eqb (rest * 2 + 0) 0 (λ z. eqb-false rest 0 e (omega arith))))
    either (suc zero) rest h = rw (ne_eqb (rest * 2 + 1) 0 (λ z. omega arith))
    either (suc (suc bit)) rest h = absurd (omega arith)

-- So an observation is radar where one of the eight bits from 29 on is set.
pub radar_bits : (set : ℕ) → not (eqb (set / 2 ^ 29 % 2 ^ 8) 0) ≡ is_radar_set set
unfolding is_radar_set
radar_bits set = sym (bits_any 8 29 set)

-- One of the covariances is there where one of the six bits from 37 on is set.
pub covariance_bits : (set : ℕ) → not (eqb (set / 2 ^ 37 % 2 ^ 6) 0) ≡ holds_any covariances (is_in set)
covariance_bits set = sym (bits_any 6 37 set)

-- What is foreign to every radar observation, but for the covariances.
abbrev always_foreign : List ℕ
always_foreign = 3 ∷ 4 ∷ upward 7 7 ++ upward 16 12

-- The first foreign element: one that is foreign to every radar observation, or one of the other kind of radar, or a covariance.
pub foreign_is : (doppler : Bool) (holds : ℕ → Bool) {always other covariance : Option ℕ}
    → always ≡ find holds always_foreign → other ≡ find holds (upward (cond doppler 32 34) 2) → covariance ≡ find holds covariances
    → option_or (option_or always other) covariance ≡ numbered (first_held (foreign doppler) holds)
foreign_is doppler holds a o c =
    let two = upward (cond doppler 32 34) 2 in
    rw (a, o, c)
    (ap (λ o. option_or o (find holds covariances)) (sym (find-append holds always_foreign two))
    ∙ sym (find-append holds (always_foreign ++ two) covariances) ∙ held_is holds (foreign doppler) (counted doppler))
  where
    counted : (t : Bool) → Counted (foreign t)
    counted true = tt
    counted false = tt

-- One of two small numbers has a next one.
pub chosen_fits : (t : Bool) (a b n : ℕ) → a < 64 → b < 64 → n ≡ cond t a b → Fits w64 (n + 1)
chosen_fits true a b n h k e = record { fits = omega arith }
chosen_fits false a b n h k e = record { fits = omega arith }

-- What is sound came out of the first case.
sound_test : (t : Bool) (rest : Result Unit Fault) → cond t rest (Err (at ElementMissing 1)) ≡ Ok tt → t ≡ true
sound_test true rest e = refl
sound_test false rest e = cc

-- What is sound has no foreign element.
sound_own : (place : ℕ) (rest : Result Unit Fault) → foreign_at place rest ≡ Ok tt → rest ≡ Ok tt
sound_own place rest e = bools (eqb place 0) (λ t. rw t at e) (λ t. let z = rw t at e in cc)

-- One of elements 1 and 2 is one of elements 1 to 4.
radar_identified : (holds : ℕ → Bool) → holds_any radar_identification holds ≡ true → holds_any identification holds ≡ true
unfolding holds_any
radar_identified holds e =
    bools (holds 1) (λ a. rw a) (λ a. bools (holds 2) (λ b. rw (a, b)) (λ b. absurd (never (rw (a, b) at e))))

-- What lacks nothing holds one of elements 1 and 2.
sound_radar : (test : Bool) (place : ℕ) → missing_at ElementMissing (cond test place 1) (Ok tt) ≡ Ok tt → test ≡ true
sound_radar true place e = refl
sound_radar false place e = cc

-- What holds what it must holds one of elements 1 to 4, whatever its kind.
fault_identified : (holds : ℕ → Bool) (wgs84 earth : Bool) → fault_in holds wgs84 earth ≡ Ok tt → holds_any identification holds ≡ true
unfolding fault_in radar_fault radar_missing optical_fault
fault_identified holds wgs84 earth e =
    bools (holds_any radar holds)
    (λ t.
    let own = sound_own (first_held (foreign (holds 34)) holds) _ (rw t at e) in
    radar_identified holds (sound_radar (holds_any radar_identification holds) (first_missing (radar_needed (holds 34)) holds) own))
    (λ t. sound_test (holds_any identification holds) _ (rw t at e))

-- A sound observation holds one of elements 1 to 4.
pub identified : (o : Observation) → observation_fault o ≡ Ok tt → holds_any identification (is_held o) ≡ true
unfolding observation_fault
identified o e = fault_identified (is_held o) (is_wgs84 o) (is_earth o) e

-- A sound observation that is not radar holds what an optical one must.
pub optical_sound : (o : Observation) → is_radar o ≡ false → observation_fault o ≡ Ok tt → optical_fault (is_held o) (is_wgs84 o) (is_earth o) ≡ Ok tt
unfolding observation_fault fault_in is_radar
optical_sound o n e = rw n at e

-- Its first four values are not all empty.
pub identified_value : (o : Observation) → observation_fault o ≡ Ok tt → ((c : ℕ) → c < 4 → get_or o c [] ≡ []) → ⊥
unfolding holds_any
identified_value o e none = never (rw (none 0 (lit< tt), none 1 (lit< tt), none 2 (lit< tt), none 3 (lit< tt)) at (identified o e))
