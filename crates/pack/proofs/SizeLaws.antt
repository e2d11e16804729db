-- Laws of the rows' sizes: those that are filled in, and that what is noted of an observation makes its size.
use Prim.Native.Nat.{ℕ, suc, ◌+◌, ◌*◌, ◌/◌, ◌%◌, ◌<◌}
use mathlib.Core.Path.{◌≡◌, refl, ap}
use mathlib.Core.Bool.{true}
use mathlib.Core.List.{List, [], ◌∷◌}
use native.Mathlib.Omega.{arith}
use lib.ListN.{length, get_or}
use Rattle.element.specs.Observation.{Observation, is_present, bit, set_of}
use Rattle.element.proofs.Sets.{bit_small}
use Rattle.element.specs.Set.{length_if, bytes_in}
use Rattle.layout.specs.Cost.{size_of}

-- Of no element no length is counted.
none_counted : (lengths : List ℕ) → bytes_in lengths 0 ≡ 0
unfolding bytes_in
none_counted [] = refl
none_counted (l ∷ ls) = omega (arith, none_counted ls)

-- What is noted of an observation, value by value, makes its size.
pub noted_size : (o : Observation) (lengths : List ℕ)
    → ((e : ℕ) → e < length o → is_present (get_or o e []) ≡ true → get_or lengths e 0 ≡ length (get_or o e [])) → bytes_in lengths (set_of o) ≡ size_of o
unfolding bytes_in set_of size_of
noted_size [] lengths n = none_counted lengths
noted_size (v ∷ o) [] n = omega (arith, noted_size o [] (λ e k p. n (suc e) (omega arith) p), empty v (n 0 (omega arith)))
  where
    empty : (v : List ℕ) → (is_present v ≡ true → 0 ≡ length v) → 0 ≡ length v
    empty [] k = refl
    empty (b ∷ t) k = k refl
noted_size (v ∷ o) (l ∷ ls) n =
    let odd : (set_of o * 2 + bit (is_present v)) % 2 ≡ bit (is_present v) = omega (arith, bit_small (is_present v)) in
    let half : (set_of o * 2 + bit (is_present v)) / 2 ≡ set_of o = omega (arith, bit_small (is_present v)) in
    rw (odd, half, noted_size o ls (λ e k p. n (suc e) (omega arith) p))
    (ap (λ (x : ℕ). x + size_of o) (first v (n 0 (omega arith))))
  where
    first : (v : List ℕ) → (is_present v ≡ true → l ≡ length v) → length_if (bit (is_present v)) l ≡ length v
    first [] k = refl
    first (b ∷ t) k = k refl
