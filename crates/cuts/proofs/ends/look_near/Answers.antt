-- `cuts::ends::look_near` meets its contract. The invariant: all ends looked at but the last are too soon.
use native.Mathlib.Omega.{arith}
use Rattle.cuts.proofs.LookLaws.{near_inside}
use Rattle.cuts.proofs.ends.look_near.Goals as goal

pub look_further-look-requires : goal.look_further-look-requires
look_further-look-requires c =
    (c.loop-look.invariant.looked, omega (arith, near_inside _ _ _ c.requires _ c.loop-look.invariant c.loop-look-test.true))
