-- Unions of sets held in numbers: their order does not matter, a set put in twice is put in once, and a set that grows has no fewer
-- elements and no fewer bytes, and as many bytes more as its new elements have.
use mathlib.Core.Path.{◌≡◌, refl, sym, ap, ap₂, ◌∙◌}
use mathlib.Core.List.{List, [], ◌∷◌}
use Prim.Native.Nat.{ℕ, ◌≤◌, ◌<◌, zero, suc, ◌+◌, ◌-◌, ◌*◌, ◌/◌, ◌%◌, max}
use native.Mathlib.Omega.{arith}
use lib.Bits.{bit_or, or_comm, or_step, or_self, or_add_and, and_le_r}
use lib.Count.{ones, ones_in, ones_step}
use native.Mathlib.Nat.{le-max_left}
use lib.Arith.{bin_ind, digits_div, digits_mod}
use Rattle.element.specs.Set.{length_if, bytes_in}

-- The lowest bit of a union, and the union without it.
max_lt : (a b : ℕ) → max (a % 2) (b % 2) < 2
max_lt a b = omega arith

or_half : (a b : ℕ) → bit_or a b / 2 ≡ bit_or (a / 2) (b / 2)
or_half a b = ap (λ (n : ℕ). n / 2) (or_step a b) ∙ digits_div (bit_or (a / 2) (b / 2)) (max_lt a b)

or_odd : (a b : ℕ) → bit_or a b % 2 ≡ max (a % 2) (b % 2)
or_odd a b = ap (λ (n : ℕ). n % 2) (or_step a b) ∙ digits_mod (bit_or (a / 2) (b / 2)) (max_lt a b)

-- Three sets at once, bit by bit.
or_three : (a b c : ℕ) → bit_or (bit_or a b) c ≡ bit_or (bit_or (a / 2) (b / 2)) (c / 2) * 2 + max (max (a % 2) (b % 2)) (c % 2)
or_three a b c = or_step (bit_or a b) c ∙ ap₂ (λ (x y : ℕ). bit_or x (c / 2) * 2 + max y (c % 2)) (or_half a b) (or_odd a b)

max_swap : (x y z : ℕ) → max (max x y) z ≡ max (max x z) y
max_swap x y z = omega arith

max_twice : (x y : ℕ) → max (max x y) y ≡ max x y
max_twice x y = omega arith

-- The order of unions does not matter.
pub or_swap : (a b c : ℕ) → bit_or (bit_or a b) c ≡ bit_or (bit_or a c) b
or_swap =
    bin_ind (λ (a : ℕ). (b c : ℕ) → bit_or (bit_or a b) c ≡ bit_or (bit_or a c) b) or_comm
    (λ a ih b c. or_three a b c ∙ ap₂ (λ (x y : ℕ). x * 2 + y) (ih (b / 2) (c / 2)) (max_swap (a % 2) (b % 2) (c % 2)) ∙ sym (or_three a c b))

-- A set put in twice is put in once.
pub or_twice : (a b : ℕ) → bit_or (bit_or a b) b ≡ bit_or a b
or_twice =
    bin_ind (λ (a : ℕ). (b : ℕ) → bit_or (bit_or a b) b ≡ bit_or a b) or_self
    (λ a ih b. or_three a b b ∙ ap₂ (λ (x y : ℕ). x * 2 + y) (ih (b / 2)) (max_twice (a % 2) (b % 2)) ∙ sym (or_step a b))

ones_zero : ones 0 ≡ 0
unfolding ones ones_in
ones_zero = refl

-- A set that grows has no fewer elements.
pub ones_grow : (a b : ℕ) → ones a ≤ ones (bit_or a b)
ones_grow =
    bin_ind (λ (a : ℕ). (b : ℕ) → ones a ≤ ones (bit_or a b)) (λ b. omega (arith, ones_zero))
    (λ a ih b. omega (arith, ones_step a, ones_step (bit_or a b), ap ones (or_half a b), or_odd a b, ih (b / 2), le-max_left (a % 2) (b % 2)))

length_le : (x y l : ℕ) → x ≤ y → length_if x l ≤ length_if y l
length_le zero y l h = omega arith
length_le (suc x) zero l h = absurd (omega arith)
length_le (suc x) (suc y) l h = omega arith

-- A set that grows has no fewer bytes, whatever each element has.
pub lengths_grow : (ls : List ℕ) (a b : ℕ) → bytes_in ls a ≤ bytes_in ls (bit_or a b)
unfolding bytes_in
lengths_grow [] a b = omega arith
lengths_grow (l ∷ ls) a b =
    rw (or_half a b, or_odd a b) (omega (arith, length_le (a % 2) (max (a % 2) (b % 2)) l (le-max_left (a % 2) (b % 2)), lengths_grow ls (a / 2) (b / 2)))

-- A set is no more than its union with another.
pub or_above : (a b : ℕ) → a ≤ bit_or a b
or_above a b = omega (arith, or_add_and a b, and_le_r a b)

-- The new elements of a union, bit by bit.
module _ (a b : ℕ) where
  new_half : (bit_or a b - a) / 2 ≡ bit_or (a / 2) (b / 2) - a / 2
  new_half = omega (arith, or_step a b, le-max_left (a % 2) (b % 2), max_lt a b, or_above (a / 2) (b / 2))

  new_odd : (bit_or a b - a) % 2 ≡ max (a % 2) (b % 2) - a % 2
  new_odd = omega (arith, or_step a b, le-max_left (a % 2) (b % 2), max_lt a b, or_above (a / 2) (b / 2))

-- The length of a bit that is set where another is, or anew.
length_new : (x y l : ℕ) → x ≤ y → y < 2 → length_if y l ≡ length_if x l + length_if (y - x) l
length_new zero y l h k =
    let same : y - 0 ≡ y = omega arith in
    rw same (omega arith)
length_new (suc x) zero l h k = absurd (omega arith)
length_new (suc x) (suc y) l h k =
    let none : suc y - suc x ≡ 0 = omega arith in
    rw none (omega arith)

-- A set that grows has the bytes of its new elements more, whatever each element has.
pub lengths_new : (ls : List ℕ) (a b : ℕ) → bytes_in ls (bit_or a b) ≡ bytes_in ls a + bytes_in ls (bit_or a b - a)
unfolding bytes_in
lengths_new [] a b = refl
lengths_new (l ∷ ls) a b =
    rw (new_half a b, new_odd a b, or_half a b, or_odd a b)
    (omega (arith, length_new (a % 2) (max (a % 2) (b % 2)) l (le-max_left (a % 2) (b % 2)) (max_lt a b), lengths_new ls (a / 2) (b / 2)))
