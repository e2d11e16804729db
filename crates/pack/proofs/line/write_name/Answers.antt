-- `pack::line::write_name` meets its contract.
use native.Mathlib.Omega.{arith}
use Rattle.element.specs.Table.{name_of}
use Rattle.pack.proofs.WritingLaws.{put_length_lem, put_inside, put_ended}
use Rattle.pack.proofs.line.write_name.Goals as goal

pub bounds-output-written : goal.bounds-output-written
bounds-output-written c = put_inside (name_of c.args.element) c.args.output.now c.requires c.put_name-written.ensures

pub overflow_add-result : goal.overflow_add-result
overflow_add-result c = omega (arith, put_length_lem (name_of c.args.element) c.args.output.now c.requires c.put_name-written.ensures)

pub returns : goal.returns
returns c = put_ended (name_of c.args.element) c.args.output.now c.requires c.put_name-written.ensures c.args.end
