-- What the system takes as a path; only private functions' contracts cite it.
use Rattle.std.specs.Prelude.{ℕ, Bool, false, cond, List, eqb, ltb, length}
use Rattle.text.specs.Lines.{up_to}

-- One more than the bytes of the longest path.
abbrev pub path_max : ℕ
path_max = 4096

-- Whether a file can have the name: it is shorter than the longest path, and no byte of it is 0, which ends a path for the system.
abbrev pub is_path : List ℕ → Bool
is_path name = cond (ltb (length name) path_max) (eqb (up_to 0 name) (length name)) false
