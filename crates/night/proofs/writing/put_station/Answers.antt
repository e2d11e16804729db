-- `night::writing::put_station` meets its contract.
use Rattle.night.proofs.WritingLaws.{station_over}
use Rattle.night.proofs.writing.put_station.Goals as goal

pub returns : goal.returns
returns c =
    station_over c.args.output.now c.args.station.now c.requires c.min-count.ensures (c.fill.ensures.after (λ y e. e)) c.copy_from_slice.ensures.after
