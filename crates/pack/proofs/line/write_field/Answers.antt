-- `pack::line::write_field` meets its contract.
use native.Mathlib.Omega.{arith}
use Rattle.pack.proofs.WritingLaws.{put_length_lem, put_inside, put_ended}
use Rattle.pack.proofs.line.write_field.Goals as goal

pub bounds-output-written : goal.bounds-output-written
bounds-output-written c = put_inside c.args.value.now c.args.output.now c.requires c.put-written.ensures

pub overflow_add-result : goal.overflow_add-result
overflow_add-result c = omega (arith, put_length_lem c.args.value.now c.args.output.now c.requires c.put-written.ensures)

pub returns : goal.returns
returns c = put_ended c.args.value.now c.args.output.now c.requires c.put-written.ensures c.args.end
