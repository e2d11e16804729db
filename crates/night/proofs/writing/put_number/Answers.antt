-- `night::writing::put_number` meets its contract.
use Rattle.night.proofs.WritingLaws.{low_over, next_over}
use Rattle.night.specs.Record.{padded}
use Rattle.text.proofs.Outputs.{low_count}
use Rattle.text.specs.Output.{low_bytes}
use native.Mathlib.Omega.{arith}
use mathlib.Core.Path.{◌∙◌}
use Prim.Native.Nat.{◌-◌}
use Rattle.night.proofs.writing.put_number.Goals as goal

pub returns : goal.returns
returns c =
    let start = c in
    next_over (low_bytes 4 (start.args.number - 1)) start.args.output.now _ 4
    (c.put_low.ensures.1 ∙ low_over 4 _ _ (omega (arith, start.requires.1))) (low_count 4 _) (padded start.args.station.now) c.put_station.ensures
