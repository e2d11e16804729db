-- The step of the search for a row, and what is found by a name.
use Prim.Native.Nat.{ℕ, suc, ◌+◌, ◌-◌, ◌<◌}
use mathlib.Core.Path.{◌≡◌, ap, sym, ◌∙◌}
use mathlib.Core.Bool.{false}
use mathlib.Core.List.{List, [], ◌∷◌}
use native.Mathlib.Omega.{arith}
use Rattle.std.specs.Prelude.{Option, Some, None, find, IfSome, unwrap_or, is_some}
use Rattle.std.specs.Borrow.{Bor}
use Rattle.std.specs.Option.{option_copied}
use Rattle.text.proofs.Bools.{never, bools}
use Rattle.text.proofs.Parts.{same_is}
use Rattle.text.specs.Part.{same}
use Rattle.inspect.specs.Tables.{entry_of, row_from, row_of}

-- A row that is not looked for is passed over.
pub row_on : (table name : List ℕ) (rows k : ℕ) → row_of table name ≡ row_from (rows - k) k table name → k < rows → (first : List ℕ) → first ≡ entry_of table k 0
    → same first name ≡ false → row_of table name ≡ row_from (rows - (k + 1)) (k + 1) table name
unfolding row_from
row_on table name rows k inv h first f e = let q : rows - k ≡ suc (rows - (k + 1)) = omega arith in inv ∙ rw (q, ← f, e)

-- What is found by a name has that name.
pub found_named : {T : Type 0} (name_of : T → List ℕ) (name : List ℕ) (table : List T) (found : Option (Bor T))
    → option_copied found ≡ find (λ entry. same (name_of entry) name) table → IfSome found (λ entry. name_of entry.now ≡ name)
found_named name_of name table None e = tt
found_named name_of name [] (Some entry) e = never (sym (ap is_some e))
found_named name_of name (x ∷ table) (Some entry) e =
    bools (same (name_of x) name)
    (λ q. let h : entry.now ≡ x = ap (λ o. unwrap_or o x) (rw q at e) in rw h (same_is (name_of x) name q))
    (λ q. found_named name_of name table (Some entry) (rw q at e))
