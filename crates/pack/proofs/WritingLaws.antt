-- Laws of a text that is written piece by piece, each piece into the rest of the lent output.
use Prim.Native.Nat.{ℕ, ◌+◌, ◌-◌, ◌≤◌, ◌<◌}
use mathlib.Core.Path.{◌≡◌, refl, sym, ap, ◌∙◌}
use mathlib.Core.List.{List, [], ◌∷◌, ◌++◌, append-nil}
use native.Mathlib.Omega.{arith}
use lib.ListN.{length, take, drop, set, length-append, length-take, length-drop}
use lib.Seq.{take_all, take-add, take_at, drop_at, drop-drop}
use Rattle.text.specs.Output.{over, put_over, put_length}
use Rattle.text.proofs.Outputs.{over_length, over_set, over_step, put_room}
use Rattle.pack.specs.Inner.{Wrote, field_text}

-- The first bytes of a text are written over the start of an output, which has room for all of it; the rest of the text is left.
pub record Writing (text before after : List ℕ) (at : ℕ) (rest : List ℕ) : Type 0 where
  pub within : at ≤ length text
  pub done : after ≡ over (take at text) before
  pub left : drop at text ≡ rest
  pub room : length text ≤ length before

-- Nothing is written.
pub write_begin : (text before : List ℕ) → length text ≤ length before → Writing text before before 0 text
unfolding over
write_begin text before h = record { within = omega arith; done = refl; left = refl; room = h }

-- The first piece is written.
pub write_first : (piece rest : List ℕ) {before after : List ℕ} {n : ℕ} → length (piece ++ rest) ≤ length before → Wrote piece before after n
    → Writing (piece ++ rest) before after n rest
write_first piece rest {before} h p = record {
  within = omega (arith, p.answer_is, length-append piece rest);
  done = p.output_is ∙ ap (λ (x : List ℕ). over x before) (sym (take_at piece rest _ (sym p.answer_is)));
  left = drop_at piece rest _ (sym p.answer_is);
  room = h;
}

module _ {text before after : List ℕ} {at : ℕ} where
  -- The output keeps its length.
  pub write_length : {rest : List ℕ} → Writing text before after at rest → length after ≡ length before
  write_length w =
      ap length w.done ∙ over_length (take at text) before (omega (arith, length-take at text, w.room))

  -- All is written.
  pub write_end : Writing text before after at [] → Wrote text before after at
  write_end w =
      let e : at ≡ length text = omega (arith, ap length w.left, length-drop at text, w.within) in
      record { answer_is = e; output_is = w.done ∙ ap (λ (x : List ℕ). over x before) (take_all at text (omega arith)) }

module _ {text before after : List ℕ} {at : ℕ} (piece rest : List ℕ) (w : Writing text before after at (piece ++ rest)) where
  -- There is room for the next piece.
  pub write_room : at + length piece ≤ length after
  write_room = omega (arith, ap length w.left, length-drop at text, length-append piece rest, w.within, w.room, write_length w)

  -- In the rest of the output, which is lent.
  pub write_fits : length piece ≤ length (take (length after - at) (drop at after))
  write_fits = simp (length-take, length-drop) (omega (arith, write_room))

  -- The next piece is written.
  pub write_next : {lent : List ℕ} {n : ℕ} → Wrote piece (take (length after - at) (drop at after)) lent n
      → Writing text before (take at after ++ (lent ++ drop (length after - at) (drop at after))) (at + n) rest
  write_next {lent} {n} p =
      let l = write_length w in
      let e : take (at + n) text ≡ take at text ++ piece =
      take-add at n text ∙ ap (λ (x : List ℕ). take at text ++ take n x) w.left ∙ ap (λ (x : List ℕ). take at text ++ x) (take_at piece rest n (sym p.answer_is)) in
      record {
        within = omega (arith, ap length w.left, length-drop at text, length-append piece rest, w.within, p.answer_is);
        done =
            ap (λ (x : List ℕ). take at after ++ (x ++ drop (length after - at) (drop at after))) p.output_is
            ∙ (over_step (take at text) piece before after at (length after - at) w.done (length-take at text ∙ omega (arith, w.within)) refl
            ∙ ap (λ (x : List ℕ). over x before) (sym e));
        left = sym (drop-drop n at text) ∙ (ap (λ (x : List ℕ). drop n x) w.left ∙ drop_at piece rest n (sym p.answer_is));
        room = w.room;
      }

-- The last piece.
module _ {text before after : List ℕ} {at : ℕ} (piece : List ℕ) (w : Writing text before after at piece) where
  ended : Writing text before after at (piece ++ [])
  ended = rw (append-nil piece) w

  pub last_room : at + length piece ≤ length after
  last_room = write_room piece [] ended

  pub last_fits : length piece ≤ length (take (length after - at) (drop at after))
  last_fits = write_fits piece [] ended

  pub write_last : {lent : List ℕ} {n : ℕ} → Wrote piece (take (length after - at) (drop at after)) lent n
      → Wrote text before (take at after ++ (lent ++ drop (length after - at) (drop at after))) (at + n)
  write_last p = write_end (write_next piece [] ended p)

-- A text put over the start of an output that has room for it and one byte more.
module _ (value before : List ℕ) {after : List ℕ} {n : ℕ} (h : length value < length before) (p : (n ≡ put_length value before) × (after ≡ put_over value before)) where
  pub put_length_lem : n ≡ length value
  put_length_lem = p.0 ∙ (put_room value before (omega arith)).0

  pub put_inside : n < length after
  put_inside =
      omega (arith, put_length_lem, ap length (p.1 ∙ (put_room value before (omega arith)).1), over_length value before (omega arith))

  pub put_ended : (end : ℕ) → Wrote (field_text value end) before (set after n end) (n + 1)
  put_ended end = record {
    answer_is = omega (arith, put_length_lem, length-append value (end ∷ []));
    output_is =
        ap (λ (x : List ℕ). set x n end) (p.1 ∙ (put_room value before (omega arith)).1) ∙ over_set value before end n (sym put_length_lem) (omega (arith, put_length_lem));
  }

-- A text put over the start of an output that has room for it is written.
pub put_wrote : (text before : List ℕ) {after : List ℕ} {n : ℕ} → length text ≤ length before → (n ≡ put_length text before) × (after ≡ put_over text before)
    → Wrote text before after n
put_wrote text before h p = let r = put_room text before h in record { answer_is = p.0 ∙ r.0; output_is = p.1 ∙ r.1 }
