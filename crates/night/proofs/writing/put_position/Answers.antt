-- `night::writing::put_position` meets its contract.
use Rattle.night.proofs.SignedLaws.{bits_back}
use Rattle.night.proofs.WritingLaws.{low_over, next_low, over_long, two_eights}
use Rattle.night.specs.Record.{units_in}
use Rattle.text.proofs.Outputs.{low_count}
use Rattle.text.specs.Output.{low_bytes}
use mir.Val.{of_z}
use mir.Syntax.{w64}
use native.Mathlib.Omega.{arith}
use mathlib.Core.List.{◌++◌}
use mathlib.Core.Path.{◌≡◌, ap, ◌∙◌}
use Rattle.night.proofs.writing.put_position.Goals as goal

pub returns : goal.returns
returns c =
    let start = c in
    let output = start.args.output.now in
    let ra-in = c.units_in in
    let ra = bits_back ra-in.result ra-in.type_inv in
    let ra-of = c.cast_unsigned in
    let ra-bits : ra-of.result ≡ of_z w64 (units_in start.args.ra) = ra-of.ensures ∙ ap (of_z w64) (ra ∙ ra-in.ensures) in
    let dec-in = c.units_in-2 in
    let dec = bits_back dec-in.result dec-in.type_inv in
    let dec-of = c.cast_unsigned-2 in
    let dec-bits : dec-of.result ≡ of_z w64 (units_in start.args.dec) = dec-of.ensures ∙ ap (of_z w64) (dec ∙ dec-in.ensures) in
    let a = low_bytes 8 ra-of.result in
    let first = c.put_low.ensures.1 ∙ low_over 8 _ _ (omega (arith, start.requires)) in
    let long = over_long a output _ 8 first (low_count 8 _) (omega (arith, start.requires)) in
    let second = next_low a output _ 8 first (low_count 8 _) 8 dec-of.result (omega (arith, start.requires, long)) c.put_low-2.ensures.1 in
    rw (← ra-bits, ← dec-bits)
    (next_low (a ++ low_bytes 8 dec-of.result) output _ 16 second (two_eights _ _) 4 0
    (omega (arith, start.requires, over_long (a ++ low_bytes 8 dec-of.result) output _ 16 second (two_eights _ _) (omega (arith, start.requires))))
    c.put_low-3.ensures.1)
