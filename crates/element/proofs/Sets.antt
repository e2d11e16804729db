-- Laws of sets of elements: their lengths together, and the set of the elements that are present in an observation.
use Prim.Native.Nat.{ℕ, zero, suc, ◌+◌, ◌-◌, ◌*◌, ◌/◌, ◌%◌, ◌^◌, ◌≤◌, ◌<◌}
use mathlib.Core.Path.{◌≡◌, refl, sym, ap, fun_ext, ◌∙◌}
use mathlib.Core.Bool.{Bool, true, false}
use mathlib.Core.List.{List, [], ◌∷◌}
use native.Mathlib.Nat.{pow-suc, pow-succ', zero-div, div-one, div-div-eq-div-mul, div-eq_of_lt, div-le_self, lt_of_lt_of_le, pow-le-pow_right, add-zero, mul-suc, mul-add}
use native.Mathlib.Numerals.{add-one}
use native.Mathlib.Omega.{arith}
use lib.Bits.{bit_or, or_block, or_zero_r}
use lib.Count.{ones, ones_step, ones-le, count_trailing_zeros, under}
use lib.Dec.{eqb, lit<}
use lib.ListN.{length, get_or, take, drop, set, replicate, drop_of_length-le, get_or-map}
use lib.Seq.{set-get_or, drop-cons, drop-drop, drop-nil}
use mir.Syntax.{w32, w64}
use mir.Val.{Fits}
use Rattle.element.specs.Set.{has, length_if, bytes_in, name_lengths, name_bytes}
use Rattle.element.specs.Table.{elements, names, name_of}
use Rattle.element.proofs.Names.{longest, name_short}
use Rattle.element.specs.Observation.{Observation, is_present, is_radar, is_radar_set, radar, holds_any, is_wgs84, is_earth, bit, set_of, fault_in, set_fault, observation_fault}

-- ---- sets

-- A set of 64 bits has no element past them.
pub has_not : (set e : ℕ) → set < 2 ^ 64 → 64 ≤ e → has set e ≡ false
has_not set e h k = rw (div-eq_of_lt (lt_of_lt_of_le h (pow-le-pow_right {n = 2} (lit< tt) {i = 64} {j = e} k)))

-- ---- lengths

-- The lengths from one element on, and past the last one.
module _ (lengths : List ℕ) (e left : ℕ) where
  bytes_step : e < length lengths → bytes_in (drop e lengths) left ≡ length_if (left % 2) (get_or lengths e 0) + bytes_in (drop (e + 1) lengths) (left / 2)
  unfolding bytes_in
  bytes_step h = rw (add-one, drop-cons lengths e 0)

  bytes_end : length lengths ≤ e → bytes_in (drop e lengths) left ≡ 0
  unfolding bytes_in
  bytes_end h = rw (drop_of_length-le lengths)

-- A length where the bit is set is no more than the length.
length_le : (bit l : ℕ) → length_if bit l ≤ l
length_le zero l = omega arith
length_le (suc bit) l = omega arith

-- Lengths of which none is above a bound.
module _ (most : ℕ) where
  -- A length where the bit is set.
  length_low : (bit l : ℕ) → bit < 2 → l ≤ most → length_if bit l ≤ most * bit
  length_low zero l b h = omega arith
  length_low (suc zero) l b h = omega arith
  length_low (suc (suc bit)) l b h = absurd (omega arith)

  -- Together they are no more than the bound for each element of the set.
  pub bytes_ones : (lengths : List ℕ) (set : ℕ) → ((e : ℕ) → get_or lengths e 0 ≤ most) → bytes_in lengths set ≤ most * ones set
  unfolding bytes_in
  bytes_ones [] set h = omega arith
  bytes_ones (l ∷ ls) set h =
      rw (ones_step set, mul-add most (set % 2) (ones (set / 2)))
      (omega (arith, length_low (set % 2) l (omega arith) (h 0), bytes_ones ls (set / 2) (λ e. h (suc e))))

  -- They are no more than the bound for each length.
  pub bytes_low : (lengths : List ℕ) (set : ℕ) → ((e : ℕ) → get_or lengths e 0 ≤ most) → bytes_in lengths set ≤ most * length lengths
  unfolding bytes_in
  bytes_low [] set h = omega arith
  bytes_low (l ∷ ls) set h =
      omega (arith, mul-suc most (length ls), length_le (set % 2) l, h 0, bytes_low ls (set / 2) (λ e. h (suc e)))

-- The bytes of the elements passed, and those of the elements from e on, are those of the set.
pub record Adds (lengths : List ℕ) (set left sum e : ℕ) : Type 0 where
  pub within : e ≤ length lengths
  pub sum_left : sum + bytes_in (drop e lengths) left ≡ bytes_in lengths set

module _ {lengths : List ℕ} {set left sum e : ℕ} (a : Adds lengths set left sum e) where
  -- One element more: p is its length where it is in the set.
  module _ (p : ℕ) (h : e < length lengths) (q : p ≡ length_if (left % 2) (get_or lengths e 0)) where
    pub adds_more : Adds lengths set (left / 2) (sum + p) (e + 1)
    adds_more = record { within = omega arith; sum_left = omega (arith, a.sum_left, bytes_step lengths e left h) }

    pub adds_fit : bytes_in lengths set < 2 ^ 32 → Fits w32 (sum + p)
    adds_fit f = record { fits = omega (arith, adds_more.sum_left) }

  -- The end of the lengths.
  pub adds_all : length lengths ≤ e → sum ≡ bytes_in lengths set
  adds_all h = omega (arith, a.sum_left, bytes_end lengths e left h)

-- The bytes of a set's first elements, and those of the others.
pub bytes_parts : (k : ℕ) (lengths : List ℕ) (set : ℕ) → bytes_in (take k lengths) set + bytes_in (drop k lengths) (set / 2 ^ k) ≡ bytes_in lengths set
unfolding bytes_in
bytes_parts zero lengths set = rw (div-one set) (omega arith)
bytes_parts (suc k) [] set = refl
bytes_parts (suc k) (l ∷ ls) set =
    rw (pow-succ' 2 k, ← div-div-eq-div-mul set 2 (2 ^ k)) (omega (arith, bytes_parts k ls (set / 2)))

-- Values noted in 16 bits each, of a set of 64 bits, have bytes that 32 bits can count.
pub values_fit : (lengths : List ℕ) (set : ℕ) → ((e : ℕ) → get_or lengths e 0 < 65536) → set < 2 ^ 64 → bytes_in lengths set < 2 ^ 32
values_fit lengths set h s = omega (arith, bytes_ones 65535 lengths set (λ e. omega (arith, h e)), ones-le 64 set s)

-- ---- names

-- There is a length for each element, and it is that of the element's name.
pub name_lengths_length : length name_lengths ≡ elements
unfolding name_lengths
name_lengths_length = refl

pub name_length : (e : ℕ) → get_or name_lengths e 0 ≡ length (name_of e)
unfolding name_lengths
name_length e = get_or-map length names e []

-- The names of any set are short.
pub names_low : (set : ℕ) → name_bytes set ≤ 1024
names_low set =
    omega (arith, bytes_low longest name_lengths set (λ e. omega (arith, name_length e, name_short e)), name_lengths_length)

-- No set without elements has bytes.
bytes_none : (lengths : List ℕ) → bytes_in lengths 0 ≡ 0
unfolding bytes_in
bytes_none [] = refl
bytes_none (l ∷ ls) = omega (arith, bytes_none ls)

-- What stands below a set's lowest element has none either.
bytes_skip : (d : ℕ) (lengths : List ℕ) (left : ℕ)
    → bytes_in lengths left ≡ bytes_in (drop (count_trailing_zeros d left) lengths) (left / 2 ^ count_trailing_zeros d left)
unfolding bytes_in count_trailing_zeros
bytes_skip zero lengths left = rw (div-one left)
bytes_skip (suc d) [] left = rw (drop-nil {A = ℕ} (count_trailing_zeros (suc d) left))
bytes_skip (suc d) (l ∷ ls) left = go (left % 2) refl (count_trailing_zeros d (left / 2)) (bytes_skip d ls (left / 2))
  where
    go : (low : ℕ) → left % 2 ≡ low → (t : ℕ) → bytes_in ls (left / 2) ≡ bytes_in (drop t ls) (left / 2 / 2 ^ t)
        → length_if (left % 2) l + bytes_in ls (left / 2) ≡ bytes_in (drop (under low t) (l ∷ ls)) (left / 2 ^ under low t)
    go zero e t h = rw (e, pow-succ' 2 t, ← div-div-eq-div-mul left 2 (2 ^ t)) (omega (arith, h))
    go (suc low) e t h = rw (div-one left)

-- The lowest element of a set is in it.
lowest_set : (d left : ℕ) → (left ≡ 0 → ⊥) → left < 2 ^ d → left / 2 ^ count_trailing_zeros d left % 2 ≡ 1
unfolding count_trailing_zeros
lowest_set zero left n h = absurd (omega (arith, n))
lowest_set (suc d) left n h =
    go (left % 2) refl (count_trailing_zeros d (left / 2)) (λ e. lowest_set d (left / 2) (λ z. n (omega (arith, e))) (omega (arith, pow-suc 2 d)))
  where
    go : (low : ℕ) → left % 2 ≡ low → (t : ℕ) → (left % 2 ≡ 0 → left / 2 / 2 ^ t % 2 ≡ 1) → left / 2 ^ under low t % 2 ≡ 1
    go zero e t next = rw (pow-succ' 2 t, ← div-div-eq-div-mul left 2 (2 ^ t)) (next e)
    go (suc low) e t next = rw (div-one left) (omega (arith, e))

-- The names of the elements passed, and those of the elements left.
module _ {set left sum e : ℕ} (a : Adds name_lengths set left sum e) where
  abbrev skip : ℕ
  skip = count_trailing_zeros 64 left

  skipped : bytes_in (drop e name_lengths) left ≡ bytes_in (drop (e + skip) name_lengths) (left / 2 ^ skip)
  skipped = bytes_skip 64 (drop e name_lengths) left ∙ ap (λ (l : List ℕ). bytes_in l (left / 2 ^ skip)) (drop-drop skip e name_lengths)

  -- No element is left.
  pub names_done : left ≡ 0 → sum ≡ name_bytes set
  names_done z = omega (arith, a.sum_left, ap (bytes_in (drop e name_lengths)) z, bytes_none (drop e name_lengths))

  -- What is left are no elements.
  pub names_past : elements ≤ e + skip → sum ≡ name_bytes set
  names_past h =
      let none : bytes_in (drop (e + skip) name_lengths) (left / 2 ^ skip) ≡ 0 =
      bytes_end name_lengths (e + skip) (left / 2 ^ skip) (omega (arith, name_lengths_length)) in
      omega (arith, a.sum_left, skipped, none)

  -- One element more: p is the length of its name.
  module _ (n : left ≡ 0 → ⊥) (b : left < 2 ^ 64) (h : e + skip < elements) (p : ℕ) (q : p ≡ length (name_of (e + skip))) where
    here : Adds name_lengths set (left / 2 ^ skip) sum (e + skip)
    here = record { within = omega (arith, name_lengths_length); sum_left = omega (arith, a.sum_left, skipped) }

    inside : e + skip < length name_lengths
    inside = rw name_lengths_length h

    added : p ≡ length_if (left / 2 ^ skip % 2) (get_or name_lengths (e + skip) 0)
    added = rw (lowest_set 64 left n b) (q ∙ sym (name_length (e + skip)))

    pub name_more : Adds name_lengths set (left / 2 ^ skip / 2) (sum + p) (e + skip + 1)
    name_more = adds_more here p inside added

    pub name_fits : Fits w64 (sum + p)
    name_fits = record { fits = omega (arith, name_more.sum_left, names_low set) }

    pub left_less : left / 2 ^ skip / 2 < 2 ^ 64
    left_less = omega (arith, div-le_self left (2 ^ skip))

-- ---- the set of an observation

-- A bit is 0 or 1.
pub bit_small : (t : Bool) → bit t < 2
bit_small true = lit< tt
bit_small false = lit< tt

-- Nothing is in the set of an observation without values.
pub set_blank : (n : ℕ) → set_of (replicate n []) ≡ 0
unfolding set_of
set_blank zero = refl
set_blank (suc n) = rw (set_blank n)

-- A set has a bit for each place of the observation at most.
pub set_below : (o : Observation) → set_of o < 2 ^ length o
unfolding set_of
set_below [] = lit< tt
set_below (v ∷ o) = omega (arith, set_below o, pow-suc 2 (length o), bit_small (is_present v))

-- Bit e of the set stands for index e.
pub has_set : (o : Observation) (e : ℕ) → set_of o / 2 ^ e % 2 ≡ bit (is_present (get_or o e []))
unfolding set_of
has_set [] e = rw (zero-div (2 ^ e))
has_set (v ∷ o) zero = rw (div-one (set_of o * 2 + bit (is_present v))) (omega (arith, bit_small (is_present v)))
has_set (v ∷ o) (suc e) =
    let half : (set_of o * 2 + bit (is_present v)) / 2 ≡ set_of o = omega (arith, bit_small (is_present v)) in
    rw (pow-succ' 2 e, ← div-div-eq-div-mul (set_of o * 2 + bit (is_present v)) 2 (2 ^ e), half) (has_set o e)

-- A bit joined with 1 is 1.
or_one : (t : Bool) → bit_or (bit t) 1 ≡ 1
or_one true = refl
or_one false = refl

-- A value put where it may stand puts its element into the set.
pub set_mark : (o : Observation) (c : ℕ) (v : List ℕ) → c < length o → is_present v ≡ true → set_of (set o c v) ≡ bit_or (set_of o) (2 ^ c)
unfolding set_of
set_mark [] c v h p = absurd (omega arith)
set_mark (w ∷ o) zero v h p =
    ap (λ (t : Bool). set_of o * 2 + bit t) p
    ∙ sym (or_block 1 (set_of o) 0 (bit (is_present w)) 1 (bit_small (is_present w)) (lit< tt)
    ∙ ap (λ (n : ℕ). n * 2 + bit_or (bit (is_present w)) 1) (or_zero_r (set_of o))
    ∙ ap (λ (n : ℕ). set_of o * 2 + n) (or_one (is_present w)))
set_mark (w ∷ o) (suc c) v h p =
    let e : 2 ^ suc c ≡ 2 ^ c * 2 ^ 1 + 0 = pow-suc 2 c ∙ sym (add-zero (2 ^ c * 2)) in
    ap (λ (n : ℕ). n * 2 + bit (is_present w)) (set_mark o c v (omega arith) p)
    ∙ ap (λ (n : ℕ). bit_or (set_of o) (2 ^ c) * 2 + n) (sym (or_zero_r (bit (is_present w))))
    ∙ sym (ap (bit_or (set_of o * 2 + bit (is_present w))) e ∙ or_block 1 (set_of o) (2 ^ c) (bit (is_present w)) 0 (bit_small (is_present w)) (lit< tt))

-- An absent value put where nothing was changes nothing.
pub set_same : (o : Observation) (c : ℕ) → get_or o c [] ≡ [] → set_of (set o c []) ≡ set_of o
set_same o c e = ap set_of (rw e at (set-get_or o c []))

-- A bit is 1 where its test holds.
bit_test : (t : Bool) → eqb (bit t) 1 ≡ t
bit_test true = refl
bit_test false = refl

-- An element is in the set where it is present.
pub has_present : (o : Observation) (e : ℕ) → has (set_of o) e ≡ is_present (get_or o e [])
has_present o e = ap (λ (n : ℕ). eqb n 1) (has_set o e) ∙ bit_test (is_present (get_or o e []))

-- The fault from the set is the fault of the observation.
pub set_fault_lem : (o : Observation) → set_fault (set_of o) (is_wgs84 o) (is_earth o) ≡ observation_fault o
unfolding set_fault observation_fault
set_fault_lem o = ap (λ (holds : ℕ → Bool). fault_in holds (is_wgs84 o) (is_earth o)) (fun_ext (λ number. has_present o (number - 1)))

-- Whether an observation is radar is seen from its set.
pub set_radar : (o : Observation) → is_radar_set (set_of o) ≡ is_radar o
unfolding is_radar_set is_radar
set_radar o = ap (holds_any radar) (fun_ext (λ number. has_present o (number - 1)))
