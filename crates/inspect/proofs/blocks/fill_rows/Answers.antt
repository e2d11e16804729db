-- `inspect::blocks::fill_rows` meets its contract.
use Prim.Native.Nat.{ℕ, ◌-◌}
use native.Mathlib.Omega.{arith}
use lib.ListN.{length, length-drop}
use lib.Seq.{set-get_or}
use mathlib.Core.Path.{◌≡◌, ap, ◌∙◌}
use Rattle.inspect.proofs.BlockLaws.{fill_start, fill_on, fill_text, fill_room}
use Rattle.inspect.proofs.blocks.fill_rows.Goals as goal

pub loop-k-init : goal.loop-k-init
loop-k-init c = fill_start _ _

pub returns-then-text-start : goal.returns-then-text-start
returns-then-text-start c = rw (set-get_or c.loop-k.rows c.loop-k.k 0) (fill_text c.loop-k.invariant c.if-text-start.true)

pub overflow_add-start : goal.overflow_add-start
overflow_add-start c = omega (arith, c.first_length-length.ensures.1, ap length c.tail-rest.ensures, length-drop c.loop-k.start c.args.text.now)

pub loop-k-preserved : goal.loop-k-preserved
loop-k-preserved c =
    let size = c.first_length-length.ensures in
    let rows = c.saturating_sub.ensures ∙ ap (λ (n : ℕ). n - 2) c.count.ensures.0 in
    fill_on c.loop-k.invariant (omega arith) (omega arith) _ _ _ _ c.tail-rest.ensures size.0 size.1 c.front.ensures rows

pub returns : goal.returns
returns c =
    let all : c.loop-k.k ≡ length c.loop-k.rows = omega arith in
    let filled = fill_room c.loop-k.invariant (omega arith) in
    (omega (arith, filled.0), filled.1, omega arith)
