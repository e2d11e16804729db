-- `night::record::number_at` meets its contract.
use native.Mathlib.Omega.{arith}
use Rattle.night.proofs.TestLaws.{number_is}
use Rattle.night.proofs.record.number_at.Goals as goal

pub returns : goal.returns
returns c = number_is c.args.bytes.now (λ k. omega (arith, c.type_inv.bytes k)) c.args.from c.args.count c.requires c.tail.ensures c.low.ensures
