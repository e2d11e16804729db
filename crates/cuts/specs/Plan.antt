-- What `shortest` promises: the wanted cut list and its bytes where the input is ready, else nothing. Nothing here speaks of a search.
use Rattle.std.specs.Prelude.{◌≡◌, Bool, true, false, ◌&&◌, List, [], ◌∷◌, map, ℕ, ◌≤◌, leb, eqb, length, take, drop}
use Rattle.cuts.specs.Cuts.{cost, same_mark, Wanted}
use Rattle.cuts.specs.Block.{most_rows, most_bytes, Row, row, total, block_bytes}
use Rattle.cuts.specs.declared.Plan.{Plan}

-- A row with its mark.
pub record Marked : Type 0 where
  pub mark : ℕ
  pub row : Row

-- The rows with these marks, these sets and these bytes of values.
abbrev pub marked_rows : List ℕ → List ℕ → List ℕ → List Marked
marked_rows [] sets sizes = []
marked_rows (mark ∷ marks) [] sizes = []
marked_rows (mark ∷ marks) (set ∷ sets) [] = []
marked_rows (mark ∷ marks) (set ∷ sets) (size ∷ sizes) = record { mark = mark; row = row set size 1 } ∷ marked_rows marks sets sizes

-- The bytes of a block of these rows. The mark costs nothing.
abbrev pub marked_bytes : List Marked → ℕ
marked_bytes rows = block_bytes (map (λ marked. marked.row) rows)

-- The input is ready: a mark and a size for each set, rows and sizes within the limits, and room for as many cuts as rows.
unfoldable pub ready : List ℕ → List ℕ → List ℕ → List ℕ → Bool
ready marks sets sizes cuts =
    eqb (length marks) (length sets)
    && (eqb (length sizes) (length sets) && (leb (length sets) most_rows && (leb (length sets) (length cuts) && leb (total sizes) most_bytes)))

-- The plan is right: as many of the lent numbers as it has blocks are the wanted cut list, its bytes are what that costs, and the
-- numbers after them stay.
pub record Planned {A : Type 0} (C : List A → ℕ) (more : A → List A → ℕ) (rows : List A) (plan : Plan) (before after : List ℕ) : Type 0 where
  pub within : plan.blocks ≤ length after
  pub wanted : Wanted C more rows (take plan.blocks after)
  pub bytes : plan.bytes ≡ cost C (take plan.blocks after) rows
  pub kept : drop plan.blocks after ≡ drop plan.blocks before

-- The plan is empty, and every lent number stays.
pub record Unplanned (plan : Plan) (before after : List ℕ) : Type 0 where
  pub blocks : plan.blocks ≡ 0
  pub bytes : plan.bytes ≡ 0
  pub kept : after ≡ before

-- The plan is right where the test says so, else empty. Rows of one block have one mark.
abbrev pub Answered : Bool → List Marked → Plan → List ℕ → List ℕ → Type 0
Answered true rows plan before after = Planned marked_bytes (same_mark (λ marked. marked.mark)) rows plan before after
Answered false rows plan before after = Unplanned plan before after

-- The plan is right where the input is ready, else empty.
abbrev pub ShortestPromised : List ℕ → List ℕ → List ℕ → Plan → List ℕ → List ℕ → Type 0
ShortestPromised marks sets sizes plan before after = Answered (ready marks sets sizes before) (marked_rows marks sets sizes) plan before after
