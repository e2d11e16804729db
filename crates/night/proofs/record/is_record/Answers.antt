-- `night::record::is_record` meets its contract.
use mathlib.Core.Path.{◌∙◌, sym}
use native.Mathlib.Omega.{arith}
use Rattle.night.proofs.TestLaws.{whole_is}
use Rattle.night.proofs.record.is_record.Goals as goal

pub returns-then-fields-number : goal.returns-then-fields-number
returns-then-fields-number c =
    let is = c.record_of-fields.ensures in
    rw (c.is_within.ensures, c.station_of.ensures, is)
    (whole_is c.args.bytes.now (λ k. omega (arith, c.type_inv.bytes k)) c.args.number (sym c.is_whole.ensures ∙ c.if-not-is_whole.false)
    (rw is at c.if-fields-number.true))
