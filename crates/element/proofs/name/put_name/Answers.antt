-- `element::name::put_name` meets its contract.
use Prim.Native.Nat.{ℕ}
use lib.Dec.{leb}
use lib.ListN.{get_or-eq_default, length}
use mathlib.Core.List.{List, []}
use mathlib.Core.Path.{◌≡◌, refl}
use Rattle.text.proofs.Bools.{bools}
use Rattle.text.specs.Output.{over, put_length, put_over}
use Rattle.element.specs.Table.{names}
use Rattle.element.proofs.name.put_name.Goals as goal

-- Where there is nothing to put, nothing changes.
nothing : (output : List ℕ) → (0 ≡ put_length {A = ℕ} [] output) × (output ≡ put_over [] output)
unfolding put_length put_over over
nothing output = bools (leb 0 (length output)) (λ t. rw t (refl, refl)) (λ t. rw t (refl, refl))

pub returns-else-index-lt-ELEMENTS : goal.returns-else-index-lt-ELEMENTS
returns-else-index-lt-ELEMENTS c = rw (get_or-eq_default names [] {n = c.args.index} c.if-index-lt-ELEMENTS.false) (nothing c.args.output.now)
