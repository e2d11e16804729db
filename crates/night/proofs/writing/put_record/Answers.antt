-- `night::writing::put_record` meets its contract.
use Prim.Native.Nat.{ℕ, ◌-◌}
use Rattle.night.proofs.WritingLaws.{next_over, number_long, time_long, record_parts}
use Rattle.text.specs.Output.{over}
use mathlib.Core.List.{List}
use mathlib.Core.Path.{ap, ◌∙◌}
use Rattle.night.proofs.writing.put_record.Goals as goal

pub returns : goal.returns
returns c =
    let start = c in
    let number = start.args.number in
    let station = start.args.station.now in
    let time = start.args.time in
    let output = start.args.output.now in
    let first = c.put_number.ensures in
    let second = next_over _ output _ 8 first (number_long (number - 1) station) _ c.put_time.ensures in
    next_over _ output _ 20 second (time_long (number - 1) station time) _ c.put_position.ensures
    ∙ ap (λ (l : List ℕ). over l output) (record_parts number station time start.args.ra start.args.dec)
