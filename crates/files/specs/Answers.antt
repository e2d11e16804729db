-- What the answers owe to the name and the room alone: what a file is or holds no definition can say.
use Prim.Native.Char.{code}
use Rattle.std.specs.Prelude.{ℕ, Bool, true, cond, Option, Some, None, Result, Ok, Err, List, [], ◌∷◌, leb, ltb, length}
use Rattle.text.specs.Part.{same}
use Rattle.files.specs.declared.NotWritten.{NotWritten}

-- What was read lies within the room.
abbrev pub is_within : ℕ → Option ℕ → Bool
is_within room (Some n) = leb n room
is_within room None = true

-- The longest name that an output may have.
abbrev pub longest : ℕ
longest = 4000

-- Why an output's name by itself is refused: it is `-`, which stands for a stream and not for a file, or it is too long.
abbrev pub fault_of : List ℕ → Option NotWritten
fault_of name = cond (same name (code "-" ∷ [])) (Some NotWritten.Standard) (cond (ltb longest (length name)) (Some NotWritten.NameTooLong) None)

-- The answer, where it is one that a name by itself is refused with.
abbrev pub by_name : Result Unit NotWritten → Option NotWritten
by_name (Ok done) = None
by_name (Err NotWritten.Standard) = Some NotWritten.Standard
by_name (Err NotWritten.NameTooLong) = Some NotWritten.NameTooLong
by_name (Err NotWritten.NotRegular) = None
by_name (Err NotWritten.PartThere) = None
by_name (Err NotWritten.Failed) = None
