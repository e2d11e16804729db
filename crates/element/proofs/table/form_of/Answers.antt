-- `element::table::form_of` meets its contract.
use native.Mathlib.Omega.{arith}
use Rattle.element.proofs.Forms.{form_past}
use Rattle.element.proofs.table.form_of.Goals as goal

pub returns-in_default : goal.returns-in_default
returns-in_default c = form_past c.args.index (omega arith)
