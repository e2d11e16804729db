-- Laws of the marks in a text, and of the place after the next one.
use Prim.Native.Nat.{ℕ, zero, suc, ◌+◌, ◌≤◌, ◌<◌}
use mathlib.Core.Path.{◌≡◌, refl, ap, ◌∙◌}
use mathlib.Core.Bool.{cond}
use mathlib.Core.List.{List, [], ◌∷◌}
use Rattle.std.specs.Prelude.{count_by}
use Rattle.std.proofs.lemmas.List.Sums.{sum_by-cons}
use native.Mathlib.Omega.{arith}
use lib.Dec.{eqb}
use lib.ListN.{length}
use Rattle.inspect.specs.Part.{after_mark, part_start, marks_in}

module _ (text : List ℕ) (at mark : ℕ) where
  -- Past the end of the text there is no mark.
  pub after_end : length text ≤ at → length text ≡ after_mark text at mark
  unfolding after_mark
  after_end h = omega arith

  -- The place after a mark is in the text or its end, and further on than the place before.
  pub after_within : after_mark text at mark ≤ length text
  unfolding after_mark
  after_within = omega arith

  pub after_further : at < length text → at < after_mark text at mark
  unfolding after_mark
  after_further h = omega arith

-- Every part starts in the text or at its end.
pub start_within : (text : List ℕ) (k mark : ℕ) → part_start text k mark ≤ length text
unfolding part_start
start_within text zero mark = omega arith
start_within text (suc k) mark = after_within text (part_start text k mark) mark

-- The marks of a text are counted byte by byte.
pub marks_counted : (mark : ℕ) (text : List ℕ) → count_by (λ byte. eqb byte mark) text ≡ marks_in mark text
unfolding marks_in
marks_counted mark [] = refl
marks_counted mark (byte ∷ text) = sum_by-cons (λ byte. cond (eqb byte mark) 1 0) byte text ∙ ap (λ n. cond (eqb byte mark) 1 0 + n) (marks_counted mark text)
