-- `pack::line::write_line` meets its contract.
use Rattle.pack.proofs.WritingLaws.{put_wrote}
use Rattle.pack.proofs.line.write_line.Goals as goal

pub returns-in-Some : goal.returns-in-Some
returns-in-Some c = rw c.in-Some.ensures at (put_wrote _ _ (rw c.in-Some.ensures c.requires.room) c.put.ensures)
