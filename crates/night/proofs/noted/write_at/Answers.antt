-- `night::noted::write_at` meets its contract.
use Rattle.night.proofs.WritingLaws.{list_with_lem}
use Rattle.night.specs.List.{place_of}
use lib.ListN.{length, take, drop}
use mathlib.Core.List.{List, ◌++◌}
use mathlib.Core.Path.{ap, ◌∙◌}
use Prim.Native.Nat.{ℕ, ◌-◌}
use Rattle.night.proofs.noted.write_at.Goals as goal

pub returns : goal.returns
returns c =
    let start = c in
    ap (λ (l : List ℕ). take (place_of start.args.number) start.args.list.now ++ (l ++ drop (length start.args.list.now - place_of start.args.number) (drop (place_of start.args.number) start.args.list.now))) c.put_record.ensures
    ∙ list_with_lem start.args.number _ start.args.list.now
    ∙ rw (c.noted_value-dec.ensures, c.noted_value-ra.ensures, c.noted_value-time.ensures, c.value_of-station.ensures)
