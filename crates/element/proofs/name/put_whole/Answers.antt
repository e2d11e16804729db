-- `element::name::put_whole` meets its contract.
use mathlib.Core.Path.{◌∙◌}
use native.Mathlib.Omega.{arith}
use Rattle.text.proofs.Outputs.{put_room}
use Rattle.element.specs.Table.{name_of}
use Rattle.element.proofs.Names.{name_short}
use Rattle.element.proofs.name.put_whole.Goals as goal

pub returns : goal.returns
returns c =
    let args = c.args in
    let room = put_room (name_of args.index) args.space.now (omega (arith, name_short args.index)) in
    (c.put_name.ensures.0 ∙ room.0, c.put_name.ensures.1 ∙ room.1)
