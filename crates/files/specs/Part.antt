-- The name under which an output is written at first; only private functions' contracts cite it.
use Prim.Native.Char.{code}
use Rattle.std.specs.Prelude.{ℕ, List, [], ◌∷◌, ◌++◌}

-- The bytes of `.part`.
abbrev pub part_end : List ℕ
part_end = code "." ∷ code "p" ∷ code "a" ∷ code "r" ∷ code "t" ∷ []

-- The name with `.part` after it.
abbrev pub part_name : List ℕ → List ℕ
part_name name = name ++ part_end
