-- Cuts of two lists of rows in turn: what they write, and which of them yields.
use Prim.Native.Nat.{ℕ, zero, suc, ◌≤◌}
use mathlib.Core.Path.{◌≡◌, refl, ap, sym, ◌∙◌}
use mathlib.Core.List.{List, [], ◌∷◌, ◌++◌, append_assoc}
use mathlib.Core.Logic.{inl, inr}
use native.Mathlib.Omega.{arith}
use lib.Dec.{eqb}
use lib.ListN.{length, take, drop, length-append}
use lib.Seq.{take-append-le, drop-append-le}
use Rattle.text.proofs.Bools.{bools}
use Rattle.element.specs.Observation.{Observation}
use Rattle.cuts.specs.Cuts.{Yields, stretch}
use Rattle.layout.specs.Written.{block_text, written, mark_of, Valid}
use Rattle.layout.specs.Packed.{ShortestCuts}
use Rattle.layout.proofs.SeamLaws.{stretch_within}

-- Rows that may stand together may where others follow.
stretch_grows : (m : ℕ) (xs ys : List Observation) → stretch mark_of m xs ≤ stretch mark_of m (xs ++ ys)
unfolding stretch
stretch_grows m [] ys = omega arith
stretch_grows m (x ∷ xs) ys =
    let i = stretch_grows m xs ys in bools (eqb (mark_of x) m) (λ e. rw e (omega arith)) (λ e. rw e (omega arith))

-- They are cuts of both lists in turn.
valid_append : (js ks : List ℕ) (A B : List Observation) → Valid js A → Valid ks B → Valid (js ++ ks) (A ++ B)
valid_append [] ks [] B v w = w
valid_append [] ks (x ∷ xs) B v w = absurd v
valid_append (j ∷ js) ks [] B v w = absurd v
valid_append (zero ∷ js) ks (x ∷ xs) B v w = absurd v
valid_append (suc j ∷ js) ks (x ∷ xs) B v w =
    let h : j ≤ length xs = omega (arith, v.0, stretch_within mark_of (mark_of x) xs) in
    (omega (arith, v.0, stretch_grows (mark_of x) xs B), rw (drop-append-le j xs B h) (valid_append js ks (drop j xs) B v.1 w))

-- What they write is what the first write and then what the others do.
pub written_append : (js ks : List ℕ) (A B : List Observation) → Valid js A → written (js ++ ks) (A ++ B) ≡ written js A ++ written ks B
unfolding written
written_append [] ks [] B v = refl
written_append [] ks (x ∷ xs) B v = absurd v
written_append (j ∷ js) ks [] B v = absurd v
written_append (zero ∷ js) ks (x ∷ xs) B v = absurd v
written_append (suc j ∷ js) ks (x ∷ xs) B v =
    let h : j ≤ length xs = omega (arith, v.0, stretch_within mark_of (mark_of x) xs) in
    rw (take-append-le j xs B h, drop-append-le j xs B h)
    (ap (λ (text : List ℕ). block_text (x ∷ take j xs) ++ text) (written_append js ks (drop j xs) B v.1)
    ∙ sym (append_assoc (block_text (x ∷ take j xs)) (written js (drop j xs)) (written ks B)))

-- Cuts of the same rows that yield to others before the same cuts yield to them.
yields_before : (is js ks : List ℕ) (L : List Observation) → Valid is L → Valid js L → Yields (is ++ ks) (js ++ ks) → Yields is js
yields_before [] js ks L v w y = tt
yields_before (i ∷ is) [] ks [] v w y = absurd v
yields_before (i ∷ is) [] ks (x ∷ xs) v w y = absurd w
yields_before (i ∷ is) (j ∷ js) ks [] v w y = absurd v
yields_before (zero ∷ is) (j ∷ js) ks (x ∷ xs) v w y = absurd v
yields_before (suc i ∷ is) (zero ∷ js) ks (x ∷ xs) v w y = absurd w
yields_before (suc i ∷ is) (suc j ∷ js) ks (x ∷ xs) v w (inl h) = inl h
yields_before (suc i ∷ is) (suc j ∷ js) ks (x ∷ xs) v w (inr h) =
    let e : j ≡ i = omega (arith, h.0) in inr (h.0, yields_before is js ks (drop i xs) v.1 (rw e at w.1) h.1)

-- And so do cuts after the same cuts.
yields_after : (is js ks : List ℕ) → Yields (is ++ js) (is ++ ks) → Yields js ks
yields_after [] js ks y = y
yields_after (i ∷ is) js ks (inl h) = absurd (omega arith)
yields_after (i ∷ is) js ks (inr h) = yields_after is js ks h.1

-- Cuts of each list that in turn are those of the packed report of both: every other cutting of either list that is as short yields.
module _ (A B : List Observation) (js ks : List ℕ) (both : ShortestCuts (A ++ B) (js ++ ks)) (v : Valid js A) (w : Valid ks B) where
  turn_length : (is ls : List ℕ) → Valid is A → length (written (is ++ ls) (A ++ B)) ≡ length (written is A ++ written ls B)
  turn_length is ls u = ap (λ (text : List ℕ). length text) (written_append is ls A B u)

  pub first_last : (others : List ℕ) → Valid others A → length (written others A) ≡ length (written js A) → Yields others js
  first_last others u e =
      yields_before others js ks A u v
      (both.last (others ++ ks) (valid_append others ks A B u w)
      (omega (
        arith,
        turn_length others ks u,
        turn_length js ks v,
        length-append (written others A) (written ks B),
        length-append (written js A) (written ks B),
      )))

  pub second_last : (others : List ℕ) → Valid others B → length (written others B) ≡ length (written ks B) → Yields others ks
  second_last others u e =
      yields_after js others ks
      (both.last (js ++ others) (valid_append js others A B v u)
      (omega (
        arith,
        turn_length js others v,
        turn_length js ks v,
        length-append (written js A) (written others B),
        length-append (written js A) (written ks B),
      )))
