-- `cuts::runs::press_row` meets its contract.
use Rattle.std.proofs.Common.{◌≡◌, ◌∷◌, arith, drop, refl}
use Rattle.cuts.specs.Block.{rows_of}
use Rattle.cuts.specs.Runs.{press}
use Rattle.cuts.proofs.PressLaws.{x, size_fits, count_fits, join_done, other_run, last_run, some_left, begin_done}
use Rattle.cuts.proofs.runs.press_row.Goals as goal
use Rattle.cuts.proofs.runs.press_row.Goals.{Joined-else-j-runs, else-j-runs-via-then-j-runs+else-runs-j, else-j-runs-via-else-j-runs}

-- The row is a run of its own.
alone : (c : Joined-else-j-runs) → press (drop c.args.i (rows_of c.args.sets.now c.args.sizes.now)) ≡ x _ _ _ _ _ c.requires.0 c.requires.1 ∷ drop c.args.j c.args.runs.now
alone c =
    elim c.else-j-runs.branch [
      | else-j-runs-via-then-j-runs+else-runs-j w ↦ other_run _ _ _ _ _ c.requires.0 c.requires.1 w.if-j-runs.true w.if-runs-j.false
      | else-j-runs-via-else-j-runs w ↦ last_run _ _ _ _ _ c.requires.0 c.requires.1 w.if-j-runs.false
    ]

pub overflow_add-runs : goal.overflow_add-runs
overflow_add-runs c = size_fits _ _ _ _ _ c.requires.0 c.requires.1 c.if-j-runs.true

pub overflow_add-runs-then-runs-j : goal.overflow_add-runs-then-runs-j
overflow_add-runs-then-runs-j c = count_fits _ _ _ _ _ c.requires.0 c.requires.1 c.if-j-runs.true

pub overflow_sub-j : goal.overflow_sub-j
overflow_sub-j c = omega (arith, some_left _ _ _ _ _ c.requires.0 c.requires.1 (alone c))

pub bounds-runs-j-else-j-runs : goal.bounds-runs-j-else-j-runs
bounds-runs-j-else-j-runs c = omega (arith, some_left _ _ _ _ _ c.requires.0 c.requires.1 (alone c), c.requires.0.within)

pub overflow_sub-result : goal.overflow_sub-result
overflow_sub-result c = omega (arith, some_left _ _ _ _ _ c.requires.0 c.requires.1 (alone c))

pub returns-then-runs-j : goal.returns-then-runs-j
returns-then-runs-j c = join_done _ _ _ _ _ c.requires.0 c.requires.1 c.if-j-runs.true _ c.if-runs-j.true refl

pub returns-else-j-runs : goal.returns-else-j-runs
returns-else-j-runs c = begin_done _ _ _ _ _ c.requires.0 c.requires.1 (alone c)
