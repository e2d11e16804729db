-- Laws of the name under which an output is written at first.
use Prim.Native.Nat.{ℕ, ◌+◌, ◌-◌, ◌≤◌}
use mathlib.Core.Path.{◌≡◌, refl, ap, ◌∙◌}
use mathlib.Core.List.{List, ◌++◌}
use native.Mathlib.Omega.{arith}
use lib.ListN.{length, take, drop, length-append, length-take, length-drop}
use lib.Seq.{take_at}
use Rattle.text.specs.Output.{over, put_over}
use Rattle.text.proofs.Outputs.{over_length, over_step, put_room}
use Rattle.files.specs.Part.{part_end, part_name}

-- A name put over the start of the room and `.part` over the rest of it, which is lent and comes back, are the name of the part.
pub part_put : (name before after rest : List ℕ) → length name + 5 ≤ length before → after ≡ put_over name before
    → rest ≡ put_over part_end (take (length after - length name) (drop (length name) after))
    → take (length name + 5) (take (length name) after ++ (rest ++ drop (length after - length name) (drop (length name) after))) ≡ part_name name
unfolding over
part_put name before after rest h e d =
    let lent : List ℕ = take (length after - length name) (drop (length name) after) in
    let back : List ℕ = drop (length after - length name) (drop (length name) after) in
    let first : after ≡ over name before = e ∙ (put_room name before (omega arith)).1 in
    let long : length after ≡ length before = ap (λ (l : List ℕ). length l) first ∙ over_length name before (omega arith) in
    let room : 5 ≤ length lent = simp (length-take, length-drop) (omega arith) in
    ap (λ (l : List ℕ). take (length name + 5) (take (length name) after ++ (l ++ back))) (d ∙ (put_room part_end lent room).1)
    ∙ ap (λ (l : List ℕ). take (length name + 5) l) (over_step name part_end before after (length name) (length after - length name) first refl refl)
    ∙ take_at (part_name name) (drop (length (part_name name)) before) (length name + 5) (length-append name part_end)
