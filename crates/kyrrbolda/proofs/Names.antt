-- The names of elements by number: what each number's name is, and that numbers and names go together.
use Prim.Native.Nat.{ℕ, zero, suc, ◌-◌, ◌<◌, ◌≤◌, zero-le}
use mathlib.Core.Path.{◌≡◌, refl, sym, ap}
use mathlib.Core.List.{List, []}
use native.Mathlib.Numerals.{add-one}
use native.Mathlib.Omega.{arith}
use lib.Dec.{ltb}
use borrow.Author.Tests.{lt-ltb, ltb-true}
use lib.ListN.{length}
use Rattle.text.specs.Output.{over, put_over}
use Rattle.text.proofs.Bools.{bools}
use Rattle.text.proofs.Outputs.{put_room}
use Rattle.text.proofs.Parts.{same_is}
use Rattle.element.specs.Table.{elements, names, name_of, index_of, element_number}
use Rattle.element.proofs.Names.{index_name, found}
use Rattle.kyrrbolda.specs.Names.{numbered_name}

-- No element has the number 0, and nothing is written for it.
pub none_numbered : (element : ℕ) (output : List ℕ) → element ≡ 0
    → (0 ≡ length (numbered_name element)) × (output ≡ put_over (numbered_name element) output)
unfolding numbered_name over
none_numbered element output e = rw (e, (put_room [] output zero-le).1) (refl, refl)

-- Any other number is one more than an index.
pub numbered : (element : ℕ) → 0 < element → numbered_name element ≡ name_of (element - 1)
unfolding numbered_name
numbered zero h = absurd (omega arith)
numbered (suc index) h = let e : index ≡ suc index - 1 = omega arith in ap name_of e

-- The number of the name of an element is the element's number.
pub number_back : (element : ℕ) → 0 < element → element ≤ elements → element_number (numbered_name element) ≡ element
unfolding element_number
number_back element h k =
    let inside : element - 1 < elements = omega arith in
    rw (numbered element h, index_name (element - 1) inside, lt-ltb _ _ inside) (omega arith)

-- A name that has a number is the name of the element of that number.
pub name_back : (name : List ℕ) → 0 < element_number name → numbered_name (element_number name) ≡ name
unfolding element_number index_of numbered_name
name_back name h =
    bools (ltb (index_of name) elements)
    (λ e. rw (e, add-one) (sym (same_is name _ (found names name (ltb-true _ _ e)))))
    (λ e. absurd (omega (arith, rw e at h)))
