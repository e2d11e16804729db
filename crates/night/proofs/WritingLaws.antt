-- Laws of a record that is written field by field, and of a list with a record in its place.
use Prim.Native.Nat.{ℕ, ◌+◌, ◌-◌, ◌≤◌, min}
use mathlib.Core.Path.{◌≡◌, refl, ap, ◌∙◌}
use mathlib.Core.List.{List, [], ◌∷◌, ◌++◌, append-nil}
use native.Mathlib.Omega.{arith}
use lib.ListN.{length, take, drop, set, replicate, length-take, length-drop, drop_of_length-le}
use lib.Seq.{take_all}
use Rattle.text.specs.Lines.{blank}
use Rattle.text.specs.Output.{over, put_over, low_bytes}
use Rattle.text.proofs.Outputs.{over_length, over_step, put_room, low_count}
use Rattle.std.specs.Prelude.{Result}
use Rattle.refusal.specs.declared.Kind.{Kind}
use Rattle.value.specs.declared.Value.{Value}
use Rattle.night.specs.Record.{fields_from, day_in, microseconds_in, units_in, padded, signed_bytes, record_bytes}
use Rattle.night.specs.List.{place_of, list_with}

-- A number's bytes are put over the start of an output that has room for them.
pub low_over : (count number : ℕ) (output : List ℕ) → count ≤ length output → put_over (low_bytes count number) output ≡ over (low_bytes count number) output
low_over count number output h = (put_room (low_bytes count number) output (omega (arith, low_count count number))).1

-- The same, at the very bytes.
spread : (output station : List ℕ) → 4 ≤ length output
    → take (min (length station) 4) station ++ drop (min (length station) 4) (replicate 4 blank ++ drop 4 output) ≡ over (padded station) output
unfolding over
spread [] station h = absurd (omega arith)
spread (w ∷ []) station h = absurd (omega arith)
spread (w ∷ x ∷ []) station h = absurd (omega arith)
spread (w ∷ x ∷ y ∷ []) station h = absurd (omega arith)
spread (w ∷ x ∷ y ∷ z ∷ output) [] h = refl
spread (w ∷ x ∷ y ∷ z ∷ output) (a ∷ []) h = refl
spread (w ∷ x ∷ y ∷ z ∷ output) (a ∷ b ∷ []) h = refl
spread (w ∷ x ∷ y ∷ z ∷ output) (a ∷ b ∷ c ∷ []) h = refl
spread (w ∷ x ∷ y ∷ z ∷ output) (a ∷ b ∷ c ∷ d ∷ station) h =
    let four : min (length (a ∷ b ∷ c ∷ d ∷ station)) 4 ≡ 4 = omega arith in
    rw four refl

-- Blanks, and the first four bytes of a station over them, or fewer where it has no more.
pub station_over : (output station : List ℕ) {count : ℕ} {blanks bytes : List ℕ} → 4 ≤ length output → count ≡ min (length station) 4
    → blanks ≡ replicate (length (take 4 output)) blank → bytes ≡ take count station
    → bytes ++ drop count (blanks ++ drop 4 output) ≡ over (padded station) output
station_over output station room few fill copy =
    let four : length (take 4 output) ≡ 4 = simp length-take (omega arith) in
    rw (copy, few, fill, four) (spread output station room)

-- Four bytes stored one by one.
pub four_over : (output : List ℕ) (a b c d : ℕ) → 4 ≤ length output
    → set (set (set (set output 0 a) 1 b) 2 c) 3 d ≡ over (a ∷ b ∷ c ∷ d ∷ []) output
unfolding over
four_over [] a b c d h = absurd (omega arith)
four_over (w ∷ []) a b c d h = absurd (omega arith)
four_over (w ∷ x ∷ []) a b c d h = absurd (omega arith)
four_over (w ∷ x ∷ y ∷ []) a b c d h = absurd (omega arith)
four_over (w ∷ x ∷ y ∷ z ∷ output) a b c d h = refl

-- A text was written over the start of an output, and the rest of it is lent and comes back.
module _ (xs d D : List ℕ) (a : ℕ) (is : D ≡ over xs d) (long : length xs ≡ a) where
  -- With a text over its start.
  pub next_over : (ys : List ℕ) {lent : List ℕ} → lent ≡ over ys (take (length D - a) (drop a D))
      → take a D ++ (lent ++ drop (length D - a) (drop a D)) ≡ over (xs ++ ys) d
  next_over ys e =
      ap (λ (l : List ℕ). take a D ++ (l ++ drop (length D - a) (drop a D))) e ∙ over_step xs ys d D a (length D - a) is long refl

  -- With a number's bytes over its start.
  pub next_low : (count number : ℕ) {lent : List ℕ} → a + count ≤ length D → lent ≡ put_over (low_bytes count number) (take (length D - a) (drop a D))
      → take a D ++ (lent ++ drop (length D - a) (drop a D)) ≡ over (xs ++ low_bytes count number) d
  next_low count number h e =
      next_over (low_bytes count number) (e ∙ low_over count number (take (length D - a) (drop a D)) (simp (length-take, length-drop) (omega arith)))

  -- The output keeps its length.
  pub over_long : a ≤ length d → length D ≡ length d
  over_long h = ap length is ∙ over_length xs d (omega arith)

-- The lengths of the parts.
pub number_long : (number : ℕ) (station : List ℕ) → length (low_bytes 4 number ++ padded station) ≡ 8
unfolding low_bytes
number_long number station = refl

pub time_long : (number : ℕ) (station : List ℕ) (time : Result Value Kind)
    → length ((low_bytes 4 number ++ padded station) ++ (signed_bytes 4 (day_in time) ++ low_bytes 8 (microseconds_in time))) ≡ 20
unfolding low_bytes
time_long number station time = refl

pub two_eights : (a b : ℕ) → length (low_bytes 8 a ++ low_bytes 8 b) ≡ 16
unfolding low_bytes
two_eights a b = refl

-- The three parts of a record, one after another.
pub record_parts : (number : ℕ) (station : List ℕ) (time ra dec : Result Value Kind)
    → ((low_bytes 4 (number - 1) ++ padded station) ++ (signed_bytes 4 (day_in time) ++ low_bytes 8 (microseconds_in time)))
    ++ ((signed_bytes 8 (units_in ra) ++ signed_bytes 8 (units_in dec)) ++ low_bytes 4 0)
    ≡ record_bytes (fields_from number station time ra dec)
unfolding record_bytes low_bytes
record_parts number station time ra dec = refl

-- The rest of a list from a record's place on, lent and come back with the record over its start.
pub list_with_lem : (number : ℕ) (bytes list : List ℕ)
    → take (place_of number) list ++ (over bytes (take (length list - place_of number) (drop (place_of number) list)) ++ drop (length list - place_of number) (drop (place_of number) list))
    ≡ list_with number bytes list
unfolding list_with
list_with_lem number bytes list =
    let p : ℕ = place_of number in
    let rest : List ℕ = drop p list in
    let all : length rest ≤ length list - p = omega (arith, length-drop p list) in
    ap (λ (l : List ℕ). take p list ++ (over bytes l ++ drop (length list - p) rest)) (take_all (length list - p) rest all)
    ∙ ap (λ (l : List ℕ). take p list ++ (over bytes rest ++ l)) (drop_of_length-le rest all)
    ∙ ap (λ (l : List ℕ). take p list ++ l) (append-nil (over bytes rest))
