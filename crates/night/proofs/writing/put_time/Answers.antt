-- `night::writing::put_time` meets its contract.
use Rattle.night.proofs.SignedLaws.{bits_back}
use Rattle.night.proofs.WritingLaws.{low_over, next_low, over_long}
use Rattle.night.specs.Record.{day_in}
use Rattle.text.proofs.Outputs.{low_count}
use Rattle.text.specs.Output.{low_bytes}
use mir.Val.{of_z}
use mir.Syntax.{w64}
use native.Mathlib.Omega.{arith}
use mathlib.Core.Path.{◌≡◌, ap, ◌∙◌}
use Rattle.night.proofs.writing.put_time.Goals as goal

pub returns : goal.returns
returns c =
    let start = c in
    let day_in_lem = c.day_in in
    let day = bits_back day_in_lem.result day_in_lem.type_inv in
    let bits : c.cast_unsigned.result ≡ of_z w64 (day_in start.args.time) = c.cast_unsigned.ensures ∙ ap (of_z w64) (day ∙ day_in_lem.ensures) in
    let first = c.put_low.ensures.1 ∙ low_over 4 _ _ (omega (arith, start.requires)) in
    rw (← bits, ← c.microseconds_in.ensures)
    (next_low (low_bytes 4 c.cast_unsigned.result) start.args.output.now _ 4 first (low_count 4 _) 8 c.microseconds_in.result
    (omega (arith, start.requires, over_long (low_bytes 4 c.cast_unsigned.result) start.args.output.now _ 4 first (low_count 4 _) (omega (arith, start.requires))))
    c.put_low-2.ensures.1)
