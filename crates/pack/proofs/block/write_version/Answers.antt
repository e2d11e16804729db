-- `pack::block::write_version` meets its contract.
use Rattle.pack.proofs.WritingLaws.{put_wrote}
use Rattle.layout.specs.Written.{line_of, barred}
use Rattle.pack.proofs.block.write_version.Goals as goal

pub returns : goal.returns
unfolding line_of barred
returns c = put_wrote _ _ c.requires c.put.ensures
