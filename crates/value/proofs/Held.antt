-- How large the value of a decimal of a width can be: its bare point is counted, so its places are fewer than its width.
use Prim.Native.Nat.{ℕ, zero, suc, ◌-◌, ◌^◌, ◌≤◌, ◌<◌}
use mathlib.Core.Path.{◌≡◌, refl, sym, ap, ◌∙◌}
use mathlib.Core.Bool.{Bool, true, false}
use mathlib.Core.List.{List}
use native.Mathlib.Omega.{arith}
use lib.Dec.{ltb}
use lib.IntN.{ℤ, nat_abs}
use lib.ListN.{length, drop}
use borrow.Author.Tests.{ltb-true, ltb-false}
use Rattle.std.specs.Prelude.{Result, Ok}
use Rattle.refusal.specs.declared.Kind.{Kind}
use Rattle.text.specs.Class.{is_only}
use Rattle.text.specs.Digits.{number}
use Rattle.text.specs.declared.class.Class.TheVariants.{Digit}
use Rattle.text.proofs.Bools.{bools, both, neither}
use Rattle.text.proofs.Classes.{leading_le}
use Rattle.text.proofs.Numbers.{number_small}
use Rattle.value.specs.Check.{less_value}
use Rattle.value.specs.Decimal.{is_pointed, is_decimal, places, is_too_wide, Range, is_within, decimal_of, decimal_in}
use Rattle.value.specs.Numeral.{digits, is_digits}
use Rattle.value.specs.Sign.{is_minus, bare, with_sign}
use Rattle.value.specs.declared.Value.{Value}
use Rattle.value.specs.declared.Value.TheVariants.{Decimal}
use Rattle.value.proofs.Checks.{in_width_lem}

-- A decimal has a byte.
pub decimal_some : (s : List ℕ) → is_decimal s ≡ true → 0 < length s
unfolding is_decimal is_digits
decimal_some s e =
    bools (is_digits s)
    (λ q. let p = both (ltb 0 (digits s)) (is_only Digit s) q in omega (arith, ltb-true 0 (digits s) p.0, leading_le Digit s))
    (λ q. let p = both (ltb 1 (length s)) (is_pointed (drop (digits s) s)) (rw q at e) in omega (arith, ltb-true 1 (length s) p.0))

-- A sign changes no size.
sign_size : (minus : Bool) (n : ℕ) → nat_abs (with_sign minus n) ≡ n
unfolding with_sign
sign_size true zero = refl
sign_size true (suc n) = refl
sign_size false n = refl

-- The whole number of a decimal has at most as many digits as its width, and its places are fewer.
pub decimal_held : (range : Range) (width : ℕ) (signed : Bool) (text : List ℕ) (whole : ℤ) (count : ℕ)
    → decimal_in range width signed text ≡ Ok (Decimal whole count) → (nat_abs whole < 10 ^ width) × (count < width)
unfolding decimal_in is_too_wide places
decimal_held range width signed text whole count e =
    let rest = bare signed text in
    let within = is_within range (number 0 rest) (places rest) in
    let p = in_width_lem (is_too_wide width rest) (is_decimal rest) within (decimal_of text rest) (sym (ap less_value e)) in
    let told : ◌≡◌ {A = Result Value Kind} (Ok (decimal_of text rest)) (Ok (Decimal whole count)) = rw (p.0, p.1, p.2) at e in
    let few : length rest ≤ width = ltb-false width (length rest) (neither (ltb width (length rest)) (ltb 18 (length rest)) p.0).0 in
    let size : nat_abs whole ≡ number 0 rest = ap nat_abs (let z : whole ≡ with_sign (is_minus text) (number 0 rest) = cc in z) ∙ sign_size (is_minus text) (number 0 rest) in
    let least : count ≡ length rest - digits rest - 1 = cc in
    (rw size (number_small rest width few), omega (arith, least, few, decimal_some rest p.1))
