use Rattle.std.proofs.Common.{rules}
use Rattle.files.proofs.PartLaws.{part_put}
use Rattle.files.proofs.writing.put_part_name.Goals as goal

pub returns : goal.returns
returns c = search (rules, part_put)
