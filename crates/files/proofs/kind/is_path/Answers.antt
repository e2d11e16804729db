use Rattle.files.proofs.PathLaws.{path_is}
use Rattle.files.proofs.kind.is_path.Goals as goal

pub returns : goal.returns
returns c = path_is c.args.name.now c.contains.ensures.value
