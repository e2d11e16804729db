-- Steps of looking at the ends of the first block: one end more, and what each sum is bounded by.
use mathlib.Core.Path.{◌≡◌, sym, ap, ap₂, ◌∙◌}
use mathlib.Core.List.{List, [], ◌∷◌}
use Prim.Native.Nat.{ℕ, ◌≤◌, ◌<◌, zero, suc, ◌+◌}
use native.Mathlib.Omega.{arith}
use lib.ListN.{length, take, get_or}
use lib.Bits.{bit_or}
use lib.Seq.{take_all}
use native.Mathlib.Numerals.{add-one}
use native.Mathlib.Decide.{dec_le}
use native.Mathlib.Nat.{zero-add}
use mir.Syntax.{w64}
use mir.Val.{Fits}
use Rattle.cuts.specs.Block.{most_rows, most_bytes, Row, row, union, value_bytes, row_count, bytes_of}
use Rattle.cuts.specs.Look.{block_limit, head_of, end_cost, Looked, IsFull, Small}
use Rattle.cuts.specs.declared.block.Head.{Head}
use Rattle.cuts.specs.declared.ends.Look.{Look}
use Rattle.cuts.proofs.SumLaws.{no_row, union_take, values_take, count_take, values_take_le, count_take_le, block_take}
use Rattle.cuts.proofs.LeastLaws.{least_one, least_take, least_leave}

-- ---- one step, over any runs

module _ (runs : List Row) (after : List ℕ) where
  -- The first end looked at.
  look_start : (r : Row) (h : Head) (c : ℕ) → 0 < length runs → get_or runs 0 no_row ≡ r → h ≡ head_of r.set → c ≡ bytes_of h.columns r.size r.count + get_or after 0 0 → c ≤ get_or after 0 0 + block_limit
      → Looked runs after (record { head = h; values = r.size; rows = r.count; from = 0; end = 0; best = 0; cost = c })
  unfolding union value_bytes row_count
  look_start r h c g e a q z =
      let u : r.set ≡ union 0 (take 1 runs) = sym (union_take runs 0 g ∙ ap (λ (x : Row). x.set) e) in
      let v : r.size ≡ value_bytes (take 1 runs) = sym (values_take runs 0 g ∙ zero-add _ ∙ ap (λ (x : Row). x.size) e) in
      let y : r.count ≡ row_count (take 1 runs) = sym (count_take runs 0 g ∙ zero-add _ ∙ ap (λ (x : Row). x.count) e) in
      record {
        inside = g;
        head = a ∙ ap head_of u;
        values = v;
        rows = y;
        least = least_one (end_cost runs after) 0;
        cost = q ∙ ap (λ (n : ℕ). n + get_or after 0 0) (sym (block_take runs 0 _ _ _ (ap (λ (x : Head). x.columns) a ∙ u) v y));
        low = z;
      }

  -- The end looked at last, as the first of those looked at.
  look_anew : (l : Look) (c : ℕ) → Looked runs after l → c ≡ bytes_of l.head.columns l.values l.rows + get_or after l.end 0 → c ≤ get_or after l.end 0 + block_limit
      → Looked runs after (record { head = l.head; values = l.values; rows = l.rows; from = l.end; end = l.end; best = l.end; cost = c })
  look_anew l c s q z = record {
    inside = s.inside;
    head = s.head;
    values = s.values;
    rows = s.rows;
    least = least_one (end_cost runs after) l.end;
    cost =
        q ∙ ap (λ (n : ℕ). n + get_or after l.end 0)
        (sym (block_take runs l.end _ _ _ (ap (λ (x : Head). x.columns) s.head) s.values s.rows));
    low = z;
  }

  -- One end more, with the run r: h is the head of its block, and c what it costs.
  module _ (l : Look) (r : Row) (h : Head) (c : ℕ) (s : Looked runs after l) (i : suc l.end < length runs) (e : get_or runs (suc l.end) no_row ≡ r)
      (a : h ≡ head_of (bit_or l.head.columns r.set)) (q : c ≡ bytes_of h.columns (l.values + r.size) (l.rows + r.count) + get_or after (suc l.end) 0) where
    head_on : h ≡ head_of (union 0 (take (suc (suc l.end)) runs))
    head_on =
        a ∙ ap head_of (sym (union_take runs (suc l.end) i
        ∙ ap₂ bit_or (sym (ap (λ (x : Head). x.columns) s.head)) (ap (λ (x : Row). x.set) e)))

    values_on : l.values + r.size ≡ value_bytes (take (suc (suc l.end)) runs)
    values_on = sym (values_take runs (suc l.end) i ∙ ap₂ ◌+◌ (sym s.values) (ap (λ (x : Row). x.size) e))

    rows_on : l.rows + r.count ≡ row_count (take (suc (suc l.end)) runs)
    rows_on = sym (count_take runs (suc l.end) i ∙ ap₂ ◌+◌ (sym s.rows) (ap (λ (x : Row). x.count) e))

    cost_on : c ≡ end_cost runs after (suc l.end)
    cost_on =
        q ∙ ap (λ (n : ℕ). n + get_or after (suc l.end) 0)
        (sym (block_take runs (suc l.end) _ _ _ (ap (λ (x : Head). x.columns) head_on) values_on rows_on))

    look_take : c ≤ l.cost
        → Looked runs after (record { head = h; values = l.values + r.size; rows = l.rows + r.count; from = l.from; end = suc l.end; best = suc l.end; cost = c })
    look_take t = record {
      inside = i;
      head = head_on;
      values = values_on;
      rows = rows_on;
      least = least_take (end_cost runs after) l.from l.end l.best s.least (omega (arith, cost_on, s.cost));
      cost = cost_on;
      low = omega (arith, s.low);
    }

    look_leave : l.cost < c
        → Looked runs after (record { head = h; values = l.values + r.size; rows = l.rows + r.count; from = l.from; end = suc l.end; best = l.best; cost = l.cost })
    look_leave t = record {
      inside = i;
      head = head_on;
      values = values_on;
      rows = rows_on;
      least = least_leave (end_cost runs after) l.from l.end l.best s.least (omega (arith, cost_on, s.cost));
      cost = s.cost;
      low = s.low;
    }

take_step : (runs : List Row) (after : List ℕ) (l : Look) (r : Row) (h : Head) (c : ℕ) → Looked runs after l → l.end + 1 < length runs → get_or runs (l.end + 1) no_row ≡ r
    → h ≡ head_of (bit_or l.head.columns r.set) → c ≡ bytes_of h.columns (l.values + r.size) (l.rows + r.count) + get_or after (l.end + 1) 0 → c ≤ l.cost
    → Looked runs after (record { head = h; values = l.values + r.size; rows = l.rows + r.count; from = l.from; end = l.end + 1; best = l.end + 1; cost = c })
take_step runs after l r h c = rw (add-one l.end) (look_take runs after l r h c)

leave_step : (runs : List Row) (after : List ℕ) (l : Look) (r : Row) (h : Head) (c : ℕ) → Looked runs after l → l.end + 1 < length runs → get_or runs (l.end + 1) no_row ≡ r
    → h ≡ head_of (bit_or l.head.columns r.set) → c ≡ bytes_of h.columns (l.values + r.size) (l.rows + r.count) + get_or after (l.end + 1) 0 → l.cost < c
    → Looked runs after (record { head = h; values = l.values + r.size; rows = l.rows + r.count; from = l.from; end = l.end + 1; best = l.best; cost = l.cost })
leave_step runs after l r h c = rw (add-one l.end) (look_leave runs after l r h c)

-- A run is no more than all of them.
run_le : (runs : List Row) (k : ℕ) → ((get_or runs k no_row).size ≤ value_bytes runs) × ((get_or runs k no_row).count ≤ row_count runs)
unfolding value_bytes row_count
run_le [] k = (omega arith, omega arith)
run_le (x ∷ runs) zero = (omega arith, omega arith)
run_le (x ∷ runs) (suc k) = (omega (arith, (run_le runs k).0), omega (arith, (run_le runs k).1))

-- The head of a block with some columns is the head with its own.
pub head_own : (h : Head) (columns : ℕ) → h ≡ head_of columns → h ≡ head_of h.columns
head_own h columns e = e ∙ ap head_of (sym (ap (λ (x : Head). x.columns) e))

-- ---- the same as the code has it: w and n are the size and the rows that were read, h the head, c the bytes of the block

module _ (runs : List Row) (after : List ℕ) (small : Small runs after) where
  pub start_small : (w : ℕ) → w ≡ (get_or runs 0 no_row).size → w ≤ most_bytes
  start_small w e = omega (arith, e, (run_le runs 0).0, small.sum)

  pub start_few : (n : ℕ) → n ≡ (get_or runs 0 no_row).count → n ≤ most_rows
  start_few n e = omega (arith, e, (run_le runs 0).1, small.all)

  pub start_looked : (w n c : ℕ) (h : Head) → h ≡ head_of (get_or runs 0 no_row).set → w ≡ (get_or runs 0 no_row).size → n ≡ (get_or runs 0 no_row).count
      → (c ≡ bytes_of h.columns w n) × (c < block_limit)
      → Looked runs after (record { head = h; values = w; rows = n; from = 0; end = 0; best = 0; cost = c + get_or after 0 0 })
  start_looked w n c h a e g q =
      look_start runs after (row (get_or runs 0 no_row).set w n) h (c + get_or after 0 0) small.some
      (ap₂ (row (get_or runs 0 no_row).set) (sym e) (sym g)) a (ap (λ (x : ℕ). x + get_or after 0 0) q.0) (omega (arith, q.1))

  module _ (l : Look) (s : Looked runs after l) where
    -- The sums stay within the limits.
    pub values_small : l.values ≤ most_bytes
    values_small = omega (arith, s.values, values_take_le runs (suc l.end), small.sum)

    pub rows_few : l.rows ≤ most_rows
    rows_few = omega (arith, s.rows, count_take_le runs (suc l.end), small.all)

    pub head_known : l.head ≡ head_of l.head.columns
    head_known = head_own l.head _ s.head

    pub anew_looked : (c : ℕ) → (c ≡ bytes_of l.head.columns l.values l.rows) × (c < block_limit)
        → Looked runs after (record { head = l.head; values = l.values; rows = l.rows; from = l.end; end = l.end; best = l.end; cost = c + get_or after l.end 0 })
    anew_looked c q = look_anew runs after l (c + get_or after l.end 0) s (ap (λ (x : ℕ). x + get_or after l.end 0) q.0) (omega (arith, q.1))

    module _ (k : l.end + 1 < length runs) where
      run_on : suc l.end < length runs
      run_on = omega arith

      pub step_small : (w : ℕ) → w ≡ (get_or runs (l.end + 1) no_row).size → l.values + w ≤ most_bytes
      step_small w e =
          omega (arith, s.values, e, values_take runs (suc l.end) run_on, values_take_le runs (suc (suc l.end)), ap (λ (x : ℕ). (get_or runs x no_row).size) (add-one l.end), small.sum)

      pub values_fit : (w : ℕ) → w ≡ (get_or runs (l.end + 1) no_row).size → Fits w64 (l.values + w)
      values_fit w e = record { fits = omega (arith, step_small w e) }

      pub step_few : (n : ℕ) → n ≡ (get_or runs (l.end + 1) no_row).count → l.rows + n ≤ most_rows
      step_few n e =
          omega (arith, s.rows, e, count_take runs (suc l.end) run_on, count_take_le runs (suc (suc l.end)), ap (λ (x : ℕ). (get_or runs x no_row).count) (add-one l.end), small.all)

      pub rows_fit : (n : ℕ) → n ≡ (get_or runs (l.end + 1) no_row).count → Fits w64 (l.rows + n)
      rows_fit n e = record { fits = omega (arith, step_few n e) }

      module _ (w n c : ℕ) (h : Head) (e : w ≡ (get_or runs (l.end + 1) no_row).size) (g : n ≡ (get_or runs (l.end + 1) no_row).count)
          (a : h ≡ head_of (bit_or l.head.columns (get_or runs (l.end + 1) no_row).set)) (q : (c ≡ bytes_of h.columns (l.values + w) (l.rows + n)) × (c < block_limit)) where
        run_read : get_or runs (l.end + 1) no_row ≡ row (get_or runs (l.end + 1) no_row).set w n
        run_read = ap₂ (row (get_or runs (l.end + 1) no_row).set) (sym e) (sym g)

        pub step_take : c + get_or after (l.end + 1) 0 ≤ l.cost
            → Looked runs after (record {
              head = h;
              values = l.values + w;
              rows = l.rows + n;
              from = l.from;
              end = l.end + 1;
              best = l.end + 1;
              cost = c + get_or after (l.end + 1) 0;
            })
        step_take =
            take_step runs after l (row (get_or runs (l.end + 1) no_row).set w n) h (c + get_or after (l.end + 1) 0) s k run_read a
            (ap (λ (x : ℕ). x + get_or after (l.end + 1) 0) q.0)

        pub step_leave : l.cost < c + get_or after (l.end + 1) 0
            → Looked runs after (record {
              head = h;
              values = l.values + w;
              rows = l.rows + n;
              from = l.from;
              end = l.end + 1;
              best = l.best;
              cost = l.cost;
            })
        step_leave =
            leave_step runs after l (row (get_or runs (l.end + 1) no_row).set w n) h (c + get_or after (l.end + 1) 0) s k run_read a
            (ap (λ (x : ℕ). x + get_or after (l.end + 1) 0) q.0)

-- ---- up to the first end with which the block has all columns

-- All ends looked at but the last are too soon.
pub record Nearing (runs : List Row) (after : List ℕ) (l : Look) : Type 0 where
  pub looked : Looked runs after l
  pub start : l.from ≡ 0
  pub soon : (k : ℕ) → k < l.end → IsFull runs k → ⊥

module _ (runs : List Row) (after : List ℕ) (columns : ℕ) (all : columns ≡ union 0 runs) (l : Look) (s : Nearing runs after l) where
  -- The columns with the last end are those that the head says.
  head_is : l.head.columns ≡ union 0 (take (suc l.end) runs)
  head_is = ap (λ (x : Head). x.columns) s.looked.head

  module _ (h : l.head.columns ≡ columns → ⊥) where
    -- Where the last end is too soon there is another.
    pub near_inside : l.end + 1 < length runs
    near_inside = go (dec_le (length runs) (suc l.end))
      where
        go : Dec (length runs ≤ suc l.end) → l.end + 1 < length runs
        go (yes g) = absurd (h (head_is ∙ ap (union 0) (take_all (suc l.end) runs g) ∙ sym all))
        go (no g) = omega arith

pub ruleset first_needs = (head_own, start_small, start_few, start_looked)

pub ruleset anew_needs = (head_known, values_small, rows_few, anew_looked)

pub ruleset further_needs = (head_own, step_small, values_fit, step_few, rows_fit, step_take, step_leave)
