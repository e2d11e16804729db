-- `comparison::compare_rows` meets its contract.
use Rattle.std.proofs.Common.{arith, sym, ◌∙◌}
use Rattle.comparison.proofs.ComparisonLaws.{rows_start, rows_on, rows_differ, one_ends, both_end}
use Rattle.comparison.proofs.compare_rows.Goals as goal

pub loop-row-init : goal.loop-row-init
loop-row-init c = rows_start _ _ c.requires.0 c.requires.1

pub loop-row-preserved : goal.loop-row-preserved
loop-row-preserved c =
    rows_on _ _ c.requires.0 c.requires.1 _ c.loop-row.invariant (omega arith) (omega arith) _ c.first_differing-element.ensures
    (sym c.is_some.ensures ∙ c.if-is_some.false)

pub returns-then-is_some : goal.returns-then-is_some
returns-then-is_some c =
    rows_differ _ _ c.requires.0 c.requires.1 _ c.loop-row.invariant (omega arith) (omega arith) _ c.first_differing-element.ensures
    (sym c.is_some.ensures ∙ c.if-is_some.true)

pub returns-then-count-second_count : goal.returns-then-count-second_count
returns-then-count-second_count c = both_end _ _ c.requires.0 c.requires.1 _ c.loop-row.invariant (omega arith) c.if-count-second_count.true

pub returns-else-count-second_count : goal.returns-else-count-second_count
returns-else-count-second_count c =
    one_ends _ _ c.requires.0 c.requires.1 _ c.loop-row.invariant _ c.min-both.ensures (omega arith) c.if-count-second_count.false
