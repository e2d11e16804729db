-- Tails: a run more in front costs each end the same where it brings no column, and the best of all ends is made of what was looked at and
-- what was passed on.
use mathlib.Core.Path.{◌≡◌, refl, sym, ap, ◌∙◌, subst, subst₂}
use mathlib.Core.Bool.{Bool, true, false}
use mathlib.Core.List.{List, [], ◌∷◌}
use Prim.Native.Nat.{ℕ, ◌≤◌, ◌<◌, zero, suc, ◌+◌, ◌-◌, ◌*◌, ◌^◌}
use native.Mathlib.Omega.{arith}
use native.Mathlib.Numerals.{add-one}
use lib.Bits.{bit_or, or_comm, or_self}
use lib.Count.{ones}
use lib.Dec.{leb}
use lib.ListN.{length, take, drop, get_or}
use lib.Seq.{drop-cons}
use borrow.Author.Tests.{leb-true, leb-false}
use Rattle.std.specs.Prelude.{Option, Some, None}
use Rattle.std.proofs.lemmas.List.{nil_from_length}
use Rattle.cuts.specs.Block.{Row, union, value_bytes, row_count, bytes_of, block_bytes}
use Rattle.cuts.specs.Look.{block_limit, head_of, end_cost, LeastIn, IsFull, LookedNear, LookedFar, Small, Ends, Late, Passed, passed_from, TailIs, TailOf, TailBehind, columns_of, tail_with, tail_if, tail_of, found_if, found_of, FoundIs}
use Rattle.cuts.specs.declared.block.Head.{Head}
use Rattle.cuts.specs.declared.ends.Look.{Look}
use Rattle.cuts.specs.declared.tail.Tail.{Tail}
use Rattle.cuts.specs.declared.tail.Found.{Found}
use Rattle.cuts.proofs.SumLaws.{no_row}
use Rattle.cuts.proofs.UnionLaws.{or_swap}
use Rattle.cuts.proofs.LeastLaws.{least_far, least_near, least_pass}

-- ---- all columns

-- A set more, and a set that is there already.
union_with : (a s : ℕ) (rows : List Row) → union (bit_or a s) rows ≡ bit_or (union a rows) s
unfolding union
union_with a s [] = refl
union_with a s (x ∷ rows) = ap (λ (n : ℕ). union n rows) (or_swap a s x.set) ∙ union_with (bit_or a x.set) s rows

union_holds : (a : ℕ) (rows : List Row) → bit_or (union a rows) a ≡ union a rows
union_holds a rows = sym (union_with a a rows) ∙ ap (λ (n : ℕ). union n rows) (or_self a)

-- More rows have the columns of fewer.
union_later : (a p k : ℕ) (rows : List Row) → p ≤ k → bit_or (union a (take k rows)) (union a (take p rows)) ≡ union a (take k rows)
unfolding union
union_later a zero k rows h = union_holds a (take k rows)
union_later a (suc p) zero rows h = absurd (omega arith)
union_later a (suc p) (suc k) [] h = or_self a
union_later a (suc p) (suc k) (x ∷ rows) h = union_later (bit_or a x.set) p k rows (omega arith)

union_whole : (a k : ℕ) (rows : List Row) → bit_or (union a rows) (union a (take k rows)) ≡ union a rows
unfolding union
union_whole a zero rows = union_holds a rows
union_whole a (suc k) [] = or_self a
union_whole a (suc k) (x ∷ rows) = union_whole (bit_or a x.set) k rows

-- So a later end has all columns too.
pub full_later : (runs : List Row) (p k : ℕ) → p ≤ k → IsFull runs p → IsFull runs k
full_later runs p k h f =
    sym (union_later 0 (suc p) (suc k) runs (omega arith)) ∙ ap (bit_or (union 0 (take (suc k) runs))) f
    ∙ or_comm (union 0 (take (suc k) runs)) (union 0 runs) ∙ union_whole 0 (suc k) runs

-- ---- a run more in front

pub union_cons : (x : Row) (xs : List Row) → union 0 (x ∷ xs) ≡ bit_or (union 0 xs) x.set
unfolding union
union_cons x xs = union_with 0 x.set xs

-- One that brings no column.
module _ (x : Row) (xs : List Row) (a : ℕ) (t : List ℕ) (e : bit_or (union 0 xs) x.set ≡ union 0 xs) where
  pass_union : (k : ℕ) → IsFull xs k → union 0 (x ∷ take (suc k) xs) ≡ union 0 xs
  pass_union k f = union_cons x (take (suc k) xs) ∙ ap (λ (n : ℕ). bit_or n x.set) f ∙ e

  -- Each end costs as much more.
  pass_cost : (k : ℕ) → IsFull xs k → end_cost (x ∷ xs) (a ∷ t) (suc k) ≡ end_cost xs t k + (x.size + x.count * ones (union 0 xs))
  unfolding block_bytes bytes_of value_bytes row_count
  pass_cost k f = rw (pass_union k f, f) (omega arith)

  pass_ends : (from best cost : ℕ) → from < length xs → Ends xs t from best cost → Ends (x ∷ xs) (a ∷ t) (suc from) (suc best) (cost + (x.size + x.count * ones (union 0 xs)))
  pass_ends from best cost h r =
      let far : suc (length xs - 1) ≡ length (x ∷ xs) - 1 = omega arith in
      record {
        full = pass_union from r.full ∙ sym (union_cons x xs ∙ e);
        least =
            subst (λ (n : ℕ). LeastIn (end_cost (x ∷ xs) (a ∷ t)) (suc from) n (suc best)) far
            (least_pass (end_cost (x ∷ xs) (a ∷ t)) (end_cost xs t) (x.size + x.count * ones (union 0 xs)) from (length xs - 1) best
            (λ k i j. pass_cost k (full_later xs from k i r.full)) r.least);
        is = omega (arith, r.is, pass_cost best (full_later xs from best r.least.from r.full));
      }

  -- The tail without it, passed on.
  passed_more : (tail : Tail) (c : ℕ) → TailIs xs t tail → c ≡ tail.cost + (x.size + x.count * ones (union 0 xs))
      → Late (x ∷ xs) (a ∷ t) (record { head = tail.head; from = tail.from + 1; best = tail.best + 1; cost = c })
  passed_more tail c r q = record {
    within = omega (arith, r.late.within);
    ends = rw (add-one tail.from, add-one tail.best, q) (pass_ends tail.from tail.best tail.cost r.late.within r.late.ends);
  }

-- As the code has it: w and n are the size and the rows of the first run.
module _ (runs : List Row) (after : List ℕ) (small : Small runs after) where
  runs_ahead : runs ≡ get_or runs 0 no_row ∷ drop 1 runs
  runs_ahead = drop-cons runs 0 no_row small.some

  after_ahead : after ≡ get_or after 0 0 ∷ drop 1 after
  after_ahead = drop-cons after 0 0 (omega (arith, small.rest, small.some))

  -- All columns of the runs.
  columns_behind : (tail : Option Tail) → TailBehind runs after tail → columns_of tail ≡ union 0 (drop 1 runs)
  unfolding union
  columns_behind None t = sym (ap (union 0) (nil_from_length (drop 1 runs) t.case))
  columns_behind (Some tail) t = ap (λ (h : Head). h.columns) t.case.head

  pub columns_all : (tail : Option Tail) (c : ℕ) → TailBehind runs after tail → c ≡ columns_of tail → bit_or c (get_or runs 0 no_row).set ≡ union 0 runs
  columns_all tail c t e =
      ap (λ (n : ℕ). bit_or n (get_or runs 0 no_row).set) (e ∙ columns_behind tail t)
      ∙ sym (ap (union 0) runs_ahead ∙ union_cons (get_or runs 0 no_row) (drop 1 runs))

  module _ (tail : Tail) (r : TailIs (drop 1 runs) (drop 1 after) tail) where
    columns_are : tail.head.columns ≡ union 0 (drop 1 runs)
    columns_are = ap (λ (h : Head). h.columns) r.head

    pub passed_on : (w n : ℕ) → w ≡ (get_or runs 0 no_row).size → n ≡ (get_or runs 0 no_row).count → bit_or tail.head.columns (get_or runs 0 no_row).set ≡ tail.head.columns
        → Passed runs after (Some (record { head = tail.head; from = tail.from + 1; best = tail.best + 1; cost = tail.cost + w + n * tail.head.count }))
    passed_on w n e d same = record {
      case =
          subst₂ (λ (l : List Row) (t : List ℕ). Late l t (record { head = tail.head; from = tail.from + 1; best = tail.best + 1; cost = tail.cost + w + n * tail.head.count }))
          (sym runs_ahead) (sym after_ahead)
          (passed_more (get_or runs 0 no_row) (drop 1 runs) (get_or after 0 0) (drop 1 after)
          (rw columns_are at same) tail (tail.cost + w + n * tail.head.count) r
          (omega (arith, e, ap (λ (h : Head). n * h.count) r.head, ap (λ (k : ℕ). k * ones (union 0 (drop 1 runs))) d)));
    }

-- A tail that is there.
pub tail_known : (runs : List Row) (after : List ℕ) (tail : Option Tail) (t : Tail) → TailOf runs after tail → tail ≡ Some t → TailIs runs after t
tail_known runs after tail t o e = (subst (TailOf runs after) e o).case

-- ---- the best of all ends

module _ (runs : List Row) (after : List ℕ) (low : (k : ℕ) → get_or after k 0 < 2 ^ 40) (near : Look) (n : LookedNear runs after near) where
  -- The ends looked at far, with the best of all from the first of them on.
  module _ (far : Look) (to : ℕ) (f : LookedFar runs after near to far) where
    far_full : IsFull runs far.from
    far_full = subst (IsFull runs) (sym f.start) n.full

    far_head : far.head ≡ head_of (union 0 runs)
    far_head = f.looked.head ∙ ap head_of (full_later runs far.from far.end (omega (arith, f.looked.least.from, f.looked.least.to)) far_full)

    tail_with_lem : (best cost : ℕ) → LeastIn (end_cost runs after) far.from (length runs - 1) best → cost ≡ end_cost runs after best → cost ≤ far.cost
        → TailIs runs after (tail_with far best cost)
    tail_with_lem best cost l e h = record {
      head = far_head;
      late = record { within = omega (arith, f.looked.inside, f.looked.least.from, f.looked.least.to); ends = record { full = far_full; least = l; is = e } };
      low = omega (arith, f.looked.low, low far.from);
    }

  -- With those passed on.
  tail_made : (far : Look) (passed : Option Tail) → LookedFar runs after near (passed_from runs passed) far → Passed runs after passed
      → TailIs runs after (tail_of far passed) × ((tail_of far passed).from ≡ near.end)
  tail_made far None f p =
      let e : far.end ≡ length runs - 1 = omega (arith, f.reached, f.looked.inside) in (
        tail_with_lem far (length runs) f far.best far.cost (subst (λ (k : ℕ). LeastIn (end_cost runs after) far.from k far.best) e f.looked.least)
            f.looked.cost (omega arith),
        f.start,
      )
  tail_made far (Some passed) f p = go (leb passed.cost far.cost) refl
    where
      ends : Ends runs after passed.from passed.best passed.cost
      ends = p.case.ends

      -- The ends passed on begin no sooner than those looked at far, and no later than after them.
      later : far.from ≤ passed.from
      later = omega (arith, f.start, n.first passed.from ends.full)

      go : (b : Bool) → leb passed.cost far.cost ≡ b → TailIs runs after (tail_if b far passed) × ((tail_if b far passed).from ≡ near.end)
      go true g = (
        tail_with_lem far passed.from f passed.best passed.cost
            (least_far (end_cost runs after) far.from far.end far.best f.looked.least passed.from (length runs - 1) passed.best ends.least
            later (omega (arith, f.reached)) (omega (arith, f.looked.inside)) (omega (arith, ends.is, f.looked.cost, leb-true passed.cost far.cost g)))
            ends.is (leb-true passed.cost far.cost g),
        f.start,
      )
      go false g = (
        tail_with_lem far passed.from f far.best far.cost
            (least_near (end_cost runs after) far.from far.end far.best f.looked.least passed.from (length runs - 1) passed.best ends.least
            later (omega (arith, f.reached)) (omega (arith, f.looked.inside)) (omega (arith, ends.is, f.looked.cost, leb-false passed.cost far.cost g)))
            f.looked.cost (omega arith),
        f.start,
      )

  -- With those looked at near.
  found_with : (tail : Tail) → TailIs runs after tail → tail.from ≡ near.end → FoundIs runs after (found_of near tail)
  found_with tail t e = go (leb tail.cost near.cost) refl
    where
      ends : Ends runs after tail.from tail.best tail.cost
      ends = t.late.ends

      least : LeastIn (end_cost runs after) 0 near.end near.best
      least = subst (λ (k : ℕ). LeastIn (end_cost runs after) k near.end near.best) n.start n.looked.least

      cheap : near.cost ≤ get_or after 0 0 + block_limit
      cheap = subst (λ (k : ℕ). near.cost ≤ get_or after k 0 + block_limit) n.start n.looked.low

      go : (b : Bool) → leb tail.cost near.cost ≡ b
          → FoundIs runs after (found_if b near tail)
      go true h = record {
        end = record {
          least =
              least_far (end_cost runs after) 0 near.end near.best least tail.from (length runs - 1) tail.best ends.least
              (omega arith) (omega arith) (omega (arith, n.looked.inside)) (omega (arith, ends.is, n.looked.cost, leb-true tail.cost near.cost h));
          is = ends.is;
          low = omega (arith, cheap, leb-true tail.cost near.cost h);
        };
        tail = t;
      }
      go false h = record {
        end = record {
          least =
              least_near (end_cost runs after) 0 near.end near.best least tail.from (length runs - 1) tail.best ends.least
              (omega arith) (omega arith) (omega (arith, n.looked.inside)) (omega (arith, ends.is, n.looked.cost, leb-false tail.cost near.cost h));
          is = n.looked.cost;
          low = cheap;
        };
        tail = t;
      }

  pub found_made : (far : Look) (passed : Option Tail) → LookedFar runs after near (passed_from runs passed) far → Passed runs after passed
      → FoundIs runs after (found_of near (tail_of far passed))
  found_made far passed f p = let t = tail_made far passed f p in found_with (tail_of far passed) t.0 t.1

-- As the code has it.
pub found_all : (runs : List Row) (after : List ℕ) → Small runs after → (near far : Look) (passed : Option Tail) (to : ℕ) (tail : Tail) (found : Found) → LookedNear runs after near
    → to ≡ passed_from runs passed → LookedFar runs after near to far → Passed runs after passed
    → tail ≡ tail_of far passed → found ≡ found_of near tail → FoundIs runs after found
found_all runs after small near far passed to tail found n t f p e d = rw (d, e) (found_made runs after small.low near n far passed (rw t at f) p)
