-- A text looked for among words that are lent.
use Prim.Native.Nat.{ℕ}
use denote.Ref.{Bor}
use lib.Dec.{eqb}
use mathlib.Core.Path.{◌≡◌, refl, sym}
use mathlib.Core.List.{List, [], ◌∷◌}
use borrow.Author.Tests.{eqb-true, eqb-false, ne_eqb}
use Rattle.std.specs.Cmp.Lexicographic.{pointwise}
use Rattle.std.specs.List.{list_any}
use Rattle.text.specs.Part.{same}
use Rattle.text.proofs.Bools.{bools}
use Rattle.value.specs.Word.{borrowed, is_one_of}

-- Which of two bytes stands first does not matter.
exchanged : (a b : ℕ) → eqb a b ≡ eqb b a
exchanged a b = bools (eqb a b) (λ q. rw (eqb-true a b q)) (λ q. rw (q, ne_eqb b a (λ z. eqb-false a b q (sym z))))

-- Bytes that are equal one by one are the same text.
same_is : (word text : List ℕ) → pointwise eqb word text ≡ same text word
unfolding same
same_is [] [] = refl
same_is [] (b ∷ text) = refl
same_is (a ∷ word) [] = refl
same_is (a ∷ word) (b ∷ text) = rw (exchanged a b, same_is word text)

-- One of the words equals the text, or none does.
pub listed_is : (words : List (Bor (List ℕ))) (text : List ℕ) → list_any (λ word. pointwise eqb word.now text) words ≡ is_one_of (borrowed words) text
listed_is [] text = refl
listed_is (word ∷ words) text = rw (same_is word.now text, listed_is words text)
