-- `cuts::stretches::stretch_end` meets its contract.
use Rattle.std.proofs.Common.{arith}
use Rattle.cuts.proofs.SumLaws.{end_is}
use Rattle.cuts.proofs.StretchLaws.{same_ends}
use Rattle.cuts.proofs.stretches.stretch_end.Goals as goal

pub overflow_add-result : goal.overflow_add-result
overflow_add-result c =
    record { fits = omega (arith, (same_ends _ _ _ _ c.requires (end_is c.args.marks.now c.args.at) c.same_marks.ensures).within) }

pub returns : goal.returns
returns c = same_ends _ _ _ _ c.requires (end_is c.args.marks.now c.args.at) c.same_marks.ensures
