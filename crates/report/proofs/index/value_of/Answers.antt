-- `report::index::value_of` meets its contract.
use mathlib.Core.Path.{sym, ◌∙◌}
use Rattle.report.proofs.IndexLaws.{none_row, none_element, none_set, noted_is}
use Rattle.report.proofs.index.value_of.Goals as goal
use Rattle.report.proofs.index.value_of.Goals.{else-row-rows-via-then-row-rows+then-element-lt-ELEMENTS+else-has, else-row-rows-via-then-row-rows+else-element-lt-ELEMENTS, else-row-rows-via-else-row-rows}

pub returns-then-has : goal.returns-then-has
returns-then-has c =
    c.front.ensures ∙ rw (c.tail-rest.ensures, c.from.ensures, c.from-then-has.ensures)
    (noted_is _ _ _ _ c.if-row-rows.true c.if-element-lt-ELEMENTS.true (sym c.has.ensures ∙ c.if-has.true))

pub returns-else-row-rows : goal.returns-else-row-rows
returns-else-row-rows c =
    elim c.else-row-rows.branch [
      | else-row-rows-via-then-row-rows+then-element-lt-ELEMENTS+else-has w ↦
          none_set _ _ _ _ w.if-row-rows.true w.if-element-lt-ELEMENTS.true (sym w.has.ensures ∙ w.if-has.false)
      | else-row-rows-via-then-row-rows+else-element-lt-ELEMENTS w ↦ none_element _ _ _ _ w.if-row-rows.true w.if-element-lt-ELEMENTS.false
      | else-row-rows-via-else-row-rows w ↦ none_row _ _ _ _ w.if-row-rows.false
    ]
