-- A reviewer can skip this file: what private functions know while they look for the best first block, and while they fill in the costs.
-- An end of the first block is told by the number of runs after the block's first.
use Rattle.std.specs.Prelude.{◌≡◌, Bool, true, false, List, ℕ, suc, ◌+◌, ◌-◌, ◌*◌, ◌^◌, ◌≤◌, ◌<◌, Option, Some, None, leb, length, take, drop, get_or}
use Rattle.std.specs.Int.Count.{ones}
use Rattle.element.specs.Set.{name_bytes}
use Rattle.cuts.specs.Block.{most_rows, most_bytes, Row, union, value_bytes, row_count, block_bytes}
use Rattle.cuts.specs.Cheapest.{best_costs, first_blocks}
use Rattle.cuts.specs.declared.block.Head.{Head}
use Rattle.cuts.specs.declared.ends.Look.{Look}
use Rattle.cuts.specs.declared.tail.Tail.{Tail}
use Rattle.cuts.specs.declared.tail.Found.{Found}

-- More than the bytes of any block within the limits.
abbrev pub block_limit : ℕ
block_limit = 2 ^ 20

-- The head of a block with these columns.
abbrev pub head_of : ℕ → Head
head_of columns = record { columns = columns; count = ones columns; bytes = 15 + name_bytes columns + ones columns }

-- The cost with end k, where what is left then costs what stands at k in `after`.
abbrev pub end_cost : List Row → List ℕ → ℕ → ℕ
end_cost runs after k = block_bytes (take (suc k) runs) + get_or after k 0

-- The place of the least of f a .. f b, the last such place.
pub record LeastIn (f : ℕ → ℕ) (a b m : ℕ) : Type 0 where
  pub from : a ≤ m
  pub to : m ≤ b
  pub least : (k : ℕ) → a ≤ k → k ≤ b → f m ≤ f k
  pub last : (k : ℕ) → m < k → k ≤ b → f m < f k

-- ---- looking at ends

-- The ends from the first to the last one are looked at.
pub record Looked (runs : List Row) (after : List ℕ) (look : Look) : Type 0 where
  pub inside : look.end < length runs
  pub head : look.head ≡ head_of (union 0 (take (suc look.end) runs))
  pub values : look.values ≡ value_bytes (take (suc look.end) runs)
  pub rows : look.rows ≡ row_count (take (suc look.end) runs)
  pub least : LeastIn (end_cost runs after) look.from look.end look.best
  pub cost : look.cost ≡ end_cost runs after look.best
  pub low : look.cost ≤ get_or after look.from 0 + block_limit

-- With end k the first block has all columns of the runs.
abbrev pub IsFull : List Row → ℕ → Type 0
IsFull runs k = union 0 (take (suc k) runs) ≡ union 0 runs

-- All ends are looked at up to the first with which the block has all columns.
pub record LookedNear (runs : List Row) (after : List ℕ) (look : Look) : Type 0 where
  pub looked : Looked runs after look
  pub start : look.from ≡ 0
  pub full : IsFull runs look.end
  pub first : (k : ℕ) → IsFull runs k → look.end ≤ k

-- The ends are looked at from the last one of `near` on, up to the one before `to` at least.
pub record LookedFar (runs : List Row) (after : List ℕ) (near : Look) (to : ℕ) (look : Look) : Type 0 where
  pub looked : Looked runs after look
  pub start : look.from ≡ near.end
  pub reached : to ≤ look.end + 1

-- The runs are some, and their sums fit.
pub record Small (runs : List Row) (after : List ℕ) : Type 0 where
  pub some : 0 < length runs
  pub few : length runs ≤ most_rows
  pub rest : length after ≡ length runs
  pub sum : value_bytes runs ≤ most_bytes
  pub all : row_count runs ≤ most_rows
  pub low : (k : ℕ) → get_or after k 0 < 2 ^ 40

-- ---- tails

-- The ends from one on: the block has all columns with it, and the best of them costs so much.
pub record Ends (runs : List Row) (after : List ℕ) (from best cost : ℕ) : Type 0 where
  pub full : IsFull runs from
  pub least : LeastIn (end_cost runs after) from (length runs - 1) best
  pub is : cost ≡ end_cost runs after best

-- There are ends of the runs from one on, and the tail is these.
pub record Late (runs : List Row) (after : List ℕ) (tail : Tail) : Type 0 where
  pub within : tail.from < length runs
  pub ends : Ends runs after tail.from tail.best tail.cost

-- What is passed on has ends of the runs, if there is any.
abbrev pub PassedCase : List Row → List ℕ → Option Tail → Type 0
PassedCase runs after None = Unit
PassedCase runs after (Some tail) = Late runs after tail

pub record Passed (runs : List Row) (after : List ℕ) (passed : Option Tail) : Type 0 where
  pub case : PassedCase runs after passed

-- Where what is passed on begins, or the end of the runs.
abbrev pub passed_from : List Row → Option Tail → ℕ
passed_from runs None = length runs
passed_from runs (Some tail) = tail.from

-- The tail of the runs.
pub record TailIs (runs : List Row) (after : List ℕ) (tail : Tail) : Type 0 where
  pub head : tail.head ≡ head_of (union 0 runs)
  pub late : Late runs after tail
  pub low : tail.cost < 2 ^ 41

-- The tail of the runs, and none where there are no runs.
abbrev pub TailCase : List Row → List ℕ → Option Tail → Type 0
TailCase runs after None = length runs ≡ 0
TailCase runs after (Some tail) = TailIs runs after tail

pub record TailOf (runs : List Row) (after : List ℕ) (tail : Option Tail) : Type 0 where
  pub case : TailCase runs after tail

-- The tail of the runs without the first.
abbrev pub TailBehind : List Row → List ℕ → Option Tail → Type 0
TailBehind runs after tail = TailOf (drop 1 runs) (drop 1 after) tail

-- All columns of a tail.
abbrev pub columns_of : Option Tail → ℕ
columns_of None = 0
columns_of (Some tail) = tail.head.columns

-- The ends looked at far as a tail, with this one as the best.
abbrev pub tail_with : Look → ℕ → ℕ → Tail
tail_with far best cost = record { head = far.head; from = far.from; best = best; cost = cost }

-- The tail of the ends looked at far and those passed on, if any: whether the best of them costs no more.
abbrev pub tail_if : Bool → Look → Tail → Tail
tail_if true far passed = tail_with far passed.best passed.cost
tail_if false far passed = tail_with far far.best far.cost

abbrev pub tail_of : Look → Option Tail → Tail
tail_of far None = tail_with far far.best far.cost
tail_of far (Some passed) = tail_if (leb passed.cost far.cost) far passed

-- The best of the ends looked at near and of the tail: whether that of the tail costs no more.
abbrev pub found_if : Bool → Look → Tail → Found
found_if true near tail = record { best = tail.best; cost = tail.cost; tail = tail }
found_if false near tail = record { best = near.best; cost = near.cost; tail = tail }

abbrev pub found_of : Look → Tail → Found
found_of near tail = found_if (leb tail.cost near.cost) near tail

-- The best of the ends up to m, the last such, and what it costs.
pub record BestEnd (runs : List Row) (after : List ℕ) (m best cost : ℕ) : Type 0 where
  pub least : LeastIn (end_cost runs after) 0 m best
  pub is : cost ≡ end_cost runs after best
  pub low : cost ≤ get_or after 0 0 + block_limit

-- The best of all ends, and the tail.
pub record FoundIs (runs : List Row) (after : List ℕ) (found : Found) : Type 0 where
  pub end : BestEnd runs after (length runs - 1) found.best found.cost
  pub tail : TailIs runs after found.tail

-- ---- filling in

-- The runs' sums fit, and so do the lists that are filled in.
pub record Fit (runs : List Row) (costs firsts : List ℕ) : Type 0 where
  pub few : length runs ≤ most_rows
  pub sum : value_bytes runs ≤ most_bytes
  pub all : row_count runs ≤ most_rows
  pub costs_length : length costs ≡ length runs + 1
  pub firsts_length : length firsts ≡ length runs

-- The costs and the first blocks from run i on are filled in.
pub record Filled (more : Row → List Row → ℕ) (runs : List Row) (i : ℕ) (costs firsts : List ℕ) : Type 0 where
  pub costs_length : length costs ≡ length runs + 1
  pub firsts_length : length firsts ≡ length runs
  pub costs_are : drop i costs ≡ best_costs block_bytes more (drop i runs)
  pub firsts_are : drop i firsts ≡ first_blocks block_bytes more (drop i runs)
  pub low : (k : ℕ) → get_or (drop i costs) k 0 ≤ (length runs - i) * block_limit

-- All costs and first blocks are filled in.
pub record Best (more : Row → List Row → ℕ) (runs : List Row) (costs firsts : List ℕ) : Type 0 where
  pub costs_are : costs ≡ best_costs block_bytes more runs
  pub firsts_are : firsts ≡ first_blocks block_bytes more runs
