use mathlib.Core.Path.{sym, ◌∙◌}
use native.Mathlib.Omega.{arith}
use Rattle.text.proofs.LineLaws.{bars_none}
use Rattle.text.proofs.lines.bars_in.Goals as goal

pub returns : goal.returns
returns c = (sym (bars_none c.args.text.now (sym c.has.ensures ∙ c.if-has.false)), omega arith)
