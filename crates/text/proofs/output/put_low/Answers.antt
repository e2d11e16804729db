-- `text::output::put_low` meets its contract.
use Rattle.text.proofs.Outputs.{low_none, low_room}
use Rattle.text.proofs.output.put_low.Goals as goal

pub returns-then-output-count : goal.returns-then-output-count
returns-then-output-count c = low_none _ _ _ c.if-output-count.true

pub returns : goal.returns
returns c = low_room _ _ _ _ c.if-output-count.false c.fill_low.ensures
