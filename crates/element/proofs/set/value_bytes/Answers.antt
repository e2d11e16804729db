-- `element::set::value_bytes` meets its contract.
use Prim.Native.Nat.{ℕ, ◌+◌, ◌-◌, ◌/◌, ◌^◌}
use lib.ListN.{length, take, drop, length-drop}
use lib.Seq.{take_all}
use mathlib.Core.List.{List}
use mathlib.Core.Path.{◌≡◌}
use native.Mathlib.Omega.{arith}
use Rattle.element.proofs.Sets.{bytes_parts, values_fit}
use Rattle.element.specs.Set.{bytes_in}
use Rattle.element.proofs.set.value_bytes.Goals as goal

-- The two parts are the whole.
parts : (lengths : List ℕ) (set : ℕ)
    → bytes_in (take 22 lengths) set + bytes_in (take (length lengths - 22) (drop 22 lengths)) (set / 2 ^ 22) ≡ bytes_in lengths set
parts lengths set =
    rw (take_all (length lengths - 22) (drop 22 lengths) (omega (arith, length-drop 22 lengths))) (bytes_parts 22 lengths set)

pub overflow_add-result : goal.overflow_add-result
overflow_add-result c =
    let start = c in
    rw (c.part_bytes-3.ensures, c.part_bytes-2.ensures, parts start.args.lengths.now start.args.set)
    (record { fits = values_fit start.args.lengths.now start.args.set (λ e. omega (arith, c.type_inv.lengths e)) start.ranges.set.fits })

pub returns : goal.returns
returns c =
    let start = c in
    rw (c.part_bytes-3.ensures, c.part_bytes-2.ensures) (parts start.args.lengths.now start.args.set)
