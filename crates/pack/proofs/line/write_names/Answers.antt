-- `pack::line::write_names` meets its contract. The invariant: the first k names are written.
use mathlib.Core.List.{[], ◌∷◌}
use native.Mathlib.Omega.{arith}
use lib.ListN.{get_or, length-append}
use Rattle.element.specs.Table.{name_of}
use Rattle.pack.proofs.FieldLaws.{line_begin, line_turn, line_room, line_fits, line_end}
use Rattle.pack.proofs.WritingLaws.{write_length, write_next}
use Rattle.pack.proofs.line.write_names.Goals as goal

pub loop-k-init : goal.loop-k-init
loop-k-init c = line_begin name_of c.args.columns.now c.requires.0.some c.requires.1

pub write_name-at-requires : goal.write_name-at-requires
write_name-at-requires c = line_fits name_of c.args.columns.now c.loop-k-test.true c.loop-k.invariant

pub overflow_add-at : goal.overflow_add-at
overflow_add-at c =
    let columns = c.args.columns.now in
    omega (
      arith,
      c.write_name-at.ensures.answer_is,
      length-append (name_of (get_or columns c.loop-k.k 0)) (c.end_of-end.result ∷ []),
      line_room name_of columns c.loop-k-test.true c.loop-k.invariant,
      write_length c.loop-k.invariant,
    )

pub loop-k-preserved : goal.loop-k-preserved
loop-k-preserved c =
    write_next _ _ (line_turn name_of c.args.columns.now c.loop-k-test.true c.end_of-end.ensures c.loop-k.invariant) c.write_name-at.ensures

pub returns : goal.returns
returns c = line_end name_of c.args.columns.now c.loop-k-test.false c.loop-k.invariant
