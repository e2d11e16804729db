-- Steps of pressing rows into runs.
use mathlib.Core.Path.{◌≡◌, refl, sym, ap, ap₂, ◌∙◌}
use mathlib.Core.Bool.{Bool, true, false, not, cond}
use mathlib.Core.List.{List, [], ◌∷◌}
use Prim.Native.Nat.{ℕ, ◌≤◌, ◌<◌, zero, suc, ◌+◌, ◌-◌}
use native.Mathlib.Omega.{arith}
use lib.ListN.{length, drop, get_or, length-drop, drop_of_length-le, set, length-set}
use lib.Dec.{eqb}
use native.Mathlib.Numerals.{add-one}
use lib.Seq.{drop-cons}
use native.Mathlib.Nat.{add_comm}
use mir.Syntax.{w16, w32}
use mir.Val.{Fits, bool_byte}
use borrow.Author.Tests.{eq-eqb, ne_eqb}
use Rattle.cuts.specs.Runs.{onto_run, onto, press, change, changes, runs_in, Room, Pressed}
use Rattle.cuts.specs.Block.{most_rows, most_bytes, Row, row, rows_of, value_bytes, row_count}
use Rattle.cuts.proofs.SumLaws.{no_row, drop_set, values_drop_le, count_drop_le}

-- The rows from i on are the row i and those after it.
rows_ahead : (sets sizes : List ℕ) (i : ℕ) → length sizes ≡ length sets → i < length sets → drop i (rows_of sets sizes) ≡ row (get_or sets i 0) (get_or sizes i 0) 1 ∷ drop (suc i) (rows_of sets sizes)
rows_ahead [] sizes i e h = absurd (omega arith)
rows_ahead (m ∷ sets) [] i e h = absurd (omega arith)
rows_ahead (m ∷ sets) (s ∷ sizes) zero e h = refl
rows_ahead (m ∷ sets) (s ∷ sizes) (suc i) e h = rows_ahead sets sizes i (omega arith) (omega arith)

-- There are no more rows than sets.
pub count_rows : (sets sizes : List ℕ) → row_count (rows_of sets sizes) ≤ length sets
unfolding row_count
count_rows [] sizes = omega arith
count_rows (m ∷ sets) [] = omega arith
count_rows (m ∷ sets) (s ∷ sizes) = omega (arith, count_rows sets sizes)

pub rows_few : (sets sizes : List ℕ) → length (rows_of sets sizes) ≤ length sets
rows_few [] sizes = omega arith
rows_few (m ∷ sets) [] = omega arith
rows_few (m ∷ sets) (s ∷ sizes) = omega (arith, rows_few sets sizes)

-- Pressing loses no value and no row.
joined_both : (b : Bool) (x run : Row) (runs : List Row) → (value_bytes (onto_run b x run runs) ≡ x.size + (run.size + value_bytes runs)) × (row_count (onto_run b x run runs) ≡ x.count + (run.count + row_count runs))
unfolding value_bytes row_count
joined_both true x run runs = (omega arith, omega arith)
joined_both false x run runs = (refl, refl)

onto_both : (x : Row) (runs : List Row) → (value_bytes (onto x runs) ≡ x.size + value_bytes runs) × (row_count (onto x runs) ≡ x.count + row_count runs)
unfolding value_bytes row_count
onto_both x [] = (refl, refl)
onto_both x (run ∷ runs) = joined_both (eqb run.set x.set) x run runs

pub press_both : (rows : List Row) → (value_bytes (press rows) ≡ value_bytes rows) × (row_count (press rows) ≡ row_count rows)
unfolding press value_bytes row_count
press_both [] = (refl, refl)
press_both (x ∷ xs) =
    ((onto_both x (press xs)).0 ∙ ap (λ (n : ℕ). x.size + n) (press_both xs).0, (onto_both x (press xs)).1 ∙ ap (λ (n : ℕ). x.count + n) (press_both xs).1)

-- The set of the first run.
head_set : List Row → ℕ
head_set [] = 0
head_set (run ∷ runs) = run.set

-- A row in front: how many runs there are, and that the first has its set.
joined_runs : (b : Bool) (x run : Row) (runs : List Row) → (length (onto_run b x run runs) ≡ cond b 0 1 + suc (length runs)) × (head_set (onto_run b x run runs) ≡ x.set)
unfolding head_set
joined_runs true x run runs = (omega arith, refl)
joined_runs false x run runs = (omega arith, refl)

onto_runs : (x : Row) (runs : List Row) → (length runs ≤ length (onto x runs)) × (length (onto x runs) ≤ suc (length runs)) × (head_set (onto x runs) ≡ x.set)
unfolding head_set
onto_runs x [] = (omega arith, omega arith, refl)
onto_runs x (run ∷ runs) = go (eqb run.set x.set)
  where
    go : (b : Bool) → (suc (length runs) ≤ length (onto_run b x run runs)) × (length (onto_run b x run runs) ≤ suc (suc (length runs))) × (head_set (onto_run b x run runs) ≡ x.set)
    go true = (omega arith, omega arith, refl)
    go false = (omega arith, omega arith, refl)

onto_length : (x : Row) (runs : List Row) → 0 < length runs → length (onto x runs) ≡ cond (eqb (head_set runs) x.set) 0 1 + length runs
unfolding head_set
onto_length x [] h = absurd (omega arith)
onto_length x (run ∷ runs) h = (joined_runs (eqb run.set x.set) x run runs).0

-- There are no more runs than rows, and no more from a row on than from the first.
pub press_short : (rows : List Row) → length (press rows) ≤ length rows
unfolding press
press_short [] = omega arith
press_short (x ∷ xs) = omega (arith, (onto_runs x (press xs)).1, press_short xs)

press_drop : (rows : List Row) (i : ℕ) → length (press (drop i rows)) ≤ length (press rows)
unfolding press
press_drop rows zero = omega arith
press_drop [] (suc i) = omega arith
press_drop (x ∷ xs) (suc i) = omega (arith, (onto_runs x (press xs)).0, press_drop xs i)

-- The sets alone say how many runs there are.
pub press_count : (sets sizes : List ℕ) → length sizes ≡ length sets → length (press (rows_of sets sizes)) ≡ runs_in sets
unfolding press runs_in changes
press_count [] sizes e = refl
press_count (m ∷ sets) [] e = absurd (omega arith)
press_count (m ∷ []) (s ∷ sizes) e = refl
press_count (m ∷ n ∷ sets) (s ∷ []) e = absurd (omega arith)
press_count (m ∷ n ∷ sets) (s ∷ z ∷ sizes) e =
    let rest = press_count (n ∷ sets) (z ∷ sizes) (omega arith) in
    let first : head_set (onto (row n z 1) (press (rows_of sets sizes))) ≡ n = (onto_runs (row n z 1) (press (rows_of sets sizes))).2 in
    onto_length (row m s 1) (onto (row n z 1) (press (rows_of sets sizes))) (omega (arith, rest))
    ∙ ap₂ (λ (h l : ℕ). cond (eqb h m) 0 1 + l) first rest ∙ (omega arith)

module _ (sets sizes : List ℕ) (runs : List Row) (i j : ℕ) (p : Pressed sets sizes (i + 1) runs j) (h : i < length sets) where
  -- The row i.
  abbrev pub x : Row
  x = row (get_or sets i 0) (get_or sizes i 0) 1

  -- The runs from i on, and their sums.
  next_is : press (drop i (rows_of sets sizes)) ≡ onto x (drop j runs)
  unfolding press
  next_is =
      ap press (rows_ahead sets sizes i p.room.same h)
      ∙ ap (onto x) (ap (λ (n : ℕ). press (drop n (rows_of sets sizes))) (sym (add-one i)) ∙ sym p.are)

  next_low : (value_bytes (press (drop i (rows_of sets sizes))) ≤ most_bytes) × (row_count (press (drop i (rows_of sets sizes))) ≤ most_rows)
  next_low = (
    omega (arith, (press_both (drop i (rows_of sets sizes))).0, values_drop_le (rows_of sets sizes) i, p.room.sum),
    omega (arith, (press_both (drop i (rows_of sets sizes))).1, count_drop_le (rows_of sets sizes) i, count_rows sets sizes, p.room.few),
  )

  -- As many runs as fit are kept.
  room_kept : (k : ℕ) (y : Row) → Room sets sizes (set runs k y)
  room_kept k y = record { same = p.room.same; few = p.room.few; sum = p.room.sum; fits = omega (arith, length-set runs k y, p.room.fits) }

  module _ (g : j < length runs) where
    runs_ahead : drop j runs ≡ get_or runs j no_row ∷ drop (suc j) runs
    runs_ahead = drop-cons runs j no_row g

    -- The run j is within the limits with the row i in it too.
    join_low : ((get_or runs j no_row).size + get_or sizes i 0 ≤ most_bytes) × ((get_or runs j no_row).count + 1 ≤ most_rows)
    unfolding value_bytes row_count
    join_low =
        let both = onto_both x (drop j runs) in (
          omega (arith, next_low.0, ap value_bytes next_is, both.0, ap value_bytes runs_ahead),
          omega (arith, next_low.1, ap row_count next_is, both.1, ap row_count runs_ahead),
        )

    pub size_fits : Fits w32 ((get_or runs j no_row).size + get_or sizes i 0)
    size_fits = record { fits = omega (arith, join_low.0) }

    pub count_fits : Fits w16 ((get_or runs j no_row).count + 1)
    count_fits = record { fits = omega (arith, join_low.1) }

    -- The row i has the set of the run j, and joins it.
    pub join_done : (y : Row) → (get_or runs j no_row).set ≡ get_or sets i 0 → y ≡ row (get_or runs j no_row).set ((get_or runs j no_row).size + get_or sizes i 0) ((get_or runs j no_row).count + 1)
        → Pressed sets sizes i (set runs j y) j
    join_done y e q =
        let run = get_or runs j no_row in
        record {
          room = room_kept j y;
          within = omega (arith, length-set runs j y);
          are =
              drop_set runs j y g
              ∙ ap (λ (t : Row). t ∷ drop (suc j) runs) (q ∙ (λ t. row (e t) (add_comm run.size (get_or sizes i 0) t) (add_comm run.count 1 t)))
              ∙ sym (next_is ∙ ap (onto x) runs_ahead ∙ ap (λ (b : Bool). onto_run b x run (drop (suc j) runs)) (eq-eqb run.set (get_or sets i 0) e));
        }

    -- It is a run of its own where its set is another than that of the run j.
    pub other_run : ((get_or runs j no_row).set ≡ get_or sets i 0 → ⊥) → press (drop i (rows_of sets sizes)) ≡ x ∷ drop j runs
    other_run n =
        next_is ∙ ap (onto x) runs_ahead
        ∙ ap (λ (b : Bool). onto_run b x (get_or runs j no_row) (drop (suc j) runs)) (ne_eqb (get_or runs j no_row).set (get_or sets i 0) n)
        ∙ ap (λ (t : List Row). x ∷ t) (sym runs_ahead)

  -- So it is where there is no run yet.
  pub last_run : length runs ≤ j → press (drop i (rows_of sets sizes)) ≡ x ∷ drop j runs
  last_run g =
      next_is ∙ ap (onto x) (drop_of_length-le runs {i = j} g)
      ∙ ap (λ (t : List Row). x ∷ t) (sym (drop_of_length-le runs {i = j} g))

  -- The row i is a run of its own: there is room for it, and it is put before the run j.
  module _ (alone : press (drop i (rows_of sets sizes)) ≡ x ∷ drop j runs) where
    pub some_left : 0 < j
    some_left = omega (arith, ap length alone, press_drop (rows_of sets sizes) i, p.room.fits, length-drop j runs, p.within)

    pub begin_done : Pressed sets sizes i (set runs (j - 1) x) (j - 1)
    begin_done =
        let k : j - 1 < length runs = omega (arith, some_left, p.within) in
        let next : suc (j - 1) ≡ j = omega (arith, some_left) in
        record {
          room = room_kept (j - 1) x;
          within = omega (arith, length-set runs (j - 1) x);
          are = drop_set runs (j - 1) x k ∙ ap (λ (n : ℕ). x ∷ drop n runs) next ∙ sym alone;
        }

-- Nothing is pressed yet.
pub press_start : (sets sizes : List ℕ) (runs : List Row) → Room sets sizes runs → Pressed sets sizes (length sets) runs (length runs)
unfolding press
press_start sets sizes runs room = record {
  room = room;
  within = omega arith;
  are = drop_of_length-le runs {i = length runs} (omega arith) ∙ sym (ap press (none sets sizes));
}
  where
    none : (ps qs : List ℕ) → drop (length ps) (rows_of ps qs) ≡ []
    none [] qs = refl
    none (a ∷ ps) [] = refl
    none (a ∷ ps) (b ∷ qs) = none ps qs

-- ---- how many runs there are

-- None, and all.
pub count_none : (sets : List ℕ) → length sets ≡ 0 → 0 ≡ runs_in sets
unfolding runs_in
count_none [] e = refl
count_none (m ∷ sets) e = absurd (omega arith)

pub count_all : (sets rest : List ℕ) (first before n i : ℕ) → sets ≡ first ∷ rest → length rest ≤ i → n + changes before (drop i rest) ≡ 1 + changes first rest → n ≡ runs_in sets
unfolding runs_in changes
count_all sets rest first before n i e h q = omega (arith, ap runs_in e, ap (changes before) (drop_of_length-le rest {i = i} h))

-- Whether the set changes, as the code counts it.
flipped : (b : Bool) → bool_byte (not b) ≡ cond b 0 1
flipped true = refl
flipped false = refl

pub changed : (set before c : ℕ) → c ≡ bool_byte (not (eqb set before)) → c ≡ change set before
changed set before c e = e ∙ flipped (eqb set before)

changed_le : (b : Bool) → bool_byte (not b) ≤ 1
changed_le true = omega arith
changed_le false = omega arith

pub changed_one : (set before c : ℕ) → c ≡ bool_byte (not (eqb set before)) → c ≤ 1
changed_one set before c e = omega (arith, e, changed_le (eqb set before))

-- A set more: one run more where it is another than the one before it.
pub count_more : (sets : List ℕ) (before set n i c : ℕ) → i < length sets → set ≡ get_or sets i 0 → c ≡ change set before
    → n + c + changes set (drop (i + 1) sets) ≡ n + changes before (drop i sets)
unfolding changes
count_more sets before set n i c h e q =
    omega (arith, q, ap (λ (k : ℕ). change k before) e, ap (λ (k : ℕ). changes k (drop (i + 1) sets)) e, ap (changes before) (drop-cons sets i 0 h), ap (λ (k : ℕ). changes (get_or sets i 0) (drop k sets)) (add-one i))
