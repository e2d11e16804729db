-- `night::check` meets its contract.
use native.Mathlib.Omega.{arith}
use Rattle.night.proofs.TestLaws.{list_right, list_bad}
use Rattle.night.proofs.check.Goals as goal

pub returns-in-None : goal.returns-in-None
returns-in-None c = list_right _ c.in-None.ensures (omega (arith, c.div_ceil.ensures))

pub returns-in-Some : goal.returns-in-Some
returns-in-Some c = list_bad _ c.in-Some.ensures
