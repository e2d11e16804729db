-- `text::output::fill_low` meets its contract.
use Rattle.text.proofs.Outputs.{low_on, low_end}
use Rattle.text.proofs.output.fill_low.Goals as goal

pub loop-byte-preserved : goal.loop-byte-preserved
loop-byte-preserved c = low_on _ _ _ _ _ c.loop-byte.invariant c.loop-byte-test.true

pub returns : goal.returns
returns c = low_end _ _ _ _ _ c.loop-byte.invariant c.loop-byte-test.false
