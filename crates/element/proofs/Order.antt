-- Laws of the order of columns: it has as many places as there are elements, and an element at each; posCov11 to posCov33 follow pos3.
use Prim.Native.Nat.{ℕ, ◌<◌}
use mathlib.Core.Path.{◌≡◌, refl, ap}
use mathlib.Core.Bool.{Bool}
use mathlib.Core.List.{List, [], ◌∷◌, map}
use lib.Dec.{ltb}
use lib.ListN.{length, get_or, take, drop}
use borrow.Author.Tests.{ltb-true}
use Rattle.text.specs.Bytes.{bytes}
use Rattle.text.specs.Part.{same}
use Rattle.text.proofs.Bools.{T_true}
use Rattle.text.proofs.Table.{below}
use Rattle.element.specs.Table.{elements, column_order, index_in, index_of}

-- It has as many places as there are elements.
pub order_length : (order : List ℕ) → order ≡ column_order → length order ≡ elements
order_length order e = ap length e

-- What stands at the place is an element.
order_test : ℕ → Bool
order_test place = ltb (get_or column_order place 0) elements

-- An element stands at each place.
pub order_known : (place : ℕ) → place < elements → get_or column_order place 0 < elements
unfolding order_test
order_known place h = ltb-true _ _ (T_true _ (below order_test elements tt place h))

-- The covariances stand after pos3 and before prog.
pub covariances_follow : take 8 (drop 12 column_order)
    ≡ map index_of (bytes "pos3" ∷ bytes "posCov11" ∷ bytes "posCov12" ∷ bytes "posCov13" ∷ bytes "posCov22" ∷ bytes "posCov23" ∷ bytes "posCov33" ∷ bytes "prog" ∷ [])
unfolding index_of index_in same
covariances_follow = refl
