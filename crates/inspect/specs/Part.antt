-- The parts of a text that stand between marks: lines between LFs, fields between bars, words between bytes 0.
use Rattle.std.specs.Prelude.{ℕ, zero, suc, ◌+◌, min, cond, List, [], ◌∷◌, eqb, length, take, drop}
use Rattle.text.specs.Lines.{up_to}

-- The part of a text from a place up to the next mark, or to the end.
unfoldable pub part_from : List ℕ → ℕ → ℕ → List ℕ
part_from text at mark = take (up_to mark (drop at text)) (drop at text)

-- The place after the next mark, or the end of the text.
unfoldable pub after_mark : List ℕ → ℕ → ℕ → ℕ
after_mark text at mark = min (at + up_to mark (drop at text) + 1) (length text)

-- The place where the part of a number starts, counted from 0; past the last one the end of the text.
unfoldable pub part_start : List ℕ → ℕ → ℕ → ℕ
part_start text zero mark = 0
part_start text (suc number) mark = after_mark text (part_start text number mark) mark

-- The part of a number, counted from 0; empty past the last one.
unfoldable pub part_of : List ℕ → ℕ → ℕ → List ℕ
part_of text number mark = part_from text (part_start text number mark) mark

-- How many marks a text has.
unfoldable pub marks_in : ℕ → List ℕ → ℕ
marks_in mark [] = 0
marks_in mark (byte ∷ text) = cond (eqb byte mark) 1 0 + marks_in mark text
