use native.Mathlib.Omega.{arith}
use Rattle.kyrrbolda.proofs.Names.{none_numbered, numbered}
use Rattle.kyrrbolda.proofs.kyrr_name.Goals as goal

pub returns-then-element-eq0 : goal.returns-then-element-eq0
returns-then-element-eq0 c = none_numbered _ _ c.if-element-eq0.true

pub returns : goal.returns
returns c =
    let args = c.args in
    rw (numbered args.element (omega arith)) (c.name_length.ensures, c.put_name.ensures.1)
