-- Laws of texts laid over the start of an output, and of numbers as bytes.
use Prim.Native.Nat.{ℕ, zero, suc, ◌+◌, ◌-◌, ◌/◌, ◌%◌, ◌^◌, ◌≤◌, ◌<◌}
use mathlib.Core.Path.{◌≡◌, refl, sym, ap, ◌∙◌}
use mathlib.Core.List.{List, [], ◌∷◌, ◌++◌, append_assoc, append-nil}
use native.Mathlib.Nat.{pow-suc}
use native.Mathlib.Numerals.{add-one}
use native.Mathlib.Omega.{arith}
use lib.ListN.{length, replicate, take, drop, set, get_or, length-append, length-drop, length-take, length-set, drop_of_length-le}
use lib.Seq.{take_at, drop_at, take_all, drop-drop, set_at, drop-cons, take-suc, take-suc-set, take-take}
use borrow.Author.Tests.{le-leb, lt-leb}
use Rattle.std.specs.Int.{from_le_bytes, w64}
use Rattle.text.specs.Output.{over, put_over, put_length, low_bytes, spelt}

-- The output keeps its length.
pub over_length : (xs d : List ℕ) → length xs ≤ length d → length (over xs d) ≡ length d
unfolding over
over_length xs d h = simp (length-append, length-drop) (omega arith)

-- One byte more.
pub over_set : (xs d : List ℕ) (v n : ℕ) → length xs ≡ n → n < length d → set (over xs d) n v ≡ over (xs ++ (v ∷ [])) d
unfolding over
over_set xs d v n e h =
    ap (λ (k : ℕ). set (xs ++ drop k d) n v) e
    ∙ ap (λ (t : List ℕ). set (xs ++ t) n v) (drop-cons d n 0 h)
    ∙ set_at xs _ _ v n e
    ∙ sym (append_assoc xs (v ∷ []) (drop (suc n) d))
    ∙ ap (λ (k : ℕ). (xs ++ (v ∷ [])) ++ drop k d) (sym (length-append xs (v ∷ []) ∙ ap (λ (k : ℕ). k + 1) e ∙ add-one n))

-- A text laid over the rest of the output, which is lent and comes back.
pub over_step : (xs ys d D : List ℕ) (a m : ℕ) → D ≡ over xs d → length xs ≡ a → m ≡ length D - a
    → take a D ++ (over ys (take m (drop a D)) ++ drop m (drop a D)) ≡ over (xs ++ ys) d
unfolding over
over_step xs ys d D a m e la em =
    let t : List ℕ = drop (length xs) d in
    let back : drop a D ≡ t = ap (λ (l : List ℕ). drop a l) e ∙ drop_at xs t a la in
    let front : take a D ≡ xs = ap (λ (l : List ℕ). take a l) e ∙ take_at xs t a la in
    let lt : length t ≤ m = omega (arith, length-drop a D, ap length back) in
    ap (λ (l : List ℕ). l ++ (over ys (take m (drop a D)) ++ drop m (drop a D))) front
    ∙ ap (λ (l : List ℕ). xs ++ (over ys (take m l) ++ drop m l)) back
    ∙ ap (λ (l : List ℕ). xs ++ (over ys l ++ drop m t)) (take_all m t lt)
    ∙ ap (λ (l : List ℕ). xs ++ (over ys t ++ l)) (drop_of_length-le t lt)
    ∙ ap (λ (l : List ℕ). xs ++ l) (append-nil (over ys t))
    ∙ ap (λ (l : List ℕ). xs ++ (ys ++ l)) (drop-drop (length ys) (length xs) d)
    ∙ sym (append_assoc xs ys (drop (length xs + length ys) d))
    ∙ ap (λ (k : ℕ). (xs ++ ys) ++ drop k d) (sym (length-append xs ys))

-- Where there is room, all of a text is put over the start of the output.
pub put_room : {A : Type 0} (xs d : List A) → length xs ≤ length d → (put_length xs d ≡ length xs) × (put_over xs d ≡ over xs d)
unfolding put_length put_over
put_room xs d h = (rw (le-leb _ _ h), rw (le-leb _ _ h))

-- Where there is none, nothing is put.
pub put_none : {A : Type 0} (xs d : List A) → length d < length xs → (put_length xs d ≡ 0) × (put_over xs d ≡ d)
unfolding put_length put_over
put_none xs d h = (rw (lt-leb _ _ h), rw (lt-leb _ _ h))

-- A number has as many first bytes as are asked for.
pub low_count : (count number : ℕ) → length (low_bytes count number) ≡ count
unfolding low_bytes
low_count zero number = refl
low_count (suc count) number = ap suc (low_count count (number / 256))

-- Bytes are being filled with the first ones of a number, and the loop stands at i: those before i are there, and those from i
-- on are the first bytes of what is left of the number.
pub record Lowering (number size : ℕ) (bytes : List ℕ) (rest i : ℕ) : Type 0 where
  pub sized : length bytes ≡ size
  pub written : take i bytes ≡ take i (low_bytes size number)
  pub left : drop i (low_bytes size number) ≡ low_bytes (size - i) rest

module _ (number size : ℕ) where
  module _ (bytes : List ℕ) (rest i : ℕ) (v : Lowering number size bytes rest i) where
    -- One byte more.
    pub low_on : i < size → Lowering number size (set bytes i (rest % 256)) (rest / 256) (i + 1)
    unfolding low_bytes
    low_on h =
        let all : List ℕ = low_bytes size number in
        let long = low_count size number in
        let more : size - i ≡ suc (size - (i + 1)) = omega arith in
        let next : get_or all i 0 ∷ drop (suc i) all ≡ rest % 256 ∷ low_bytes (size - (i + 1)) (rest / 256) =
        sym (drop-cons all i 0 (omega arith)) ∙ (rw more at v.left) in
        let byte : get_or all i 0 ≡ rest % 256 = cc in
        record {
          sized = length-set bytes i (rest % 256) ∙ v.sized;
          written = rw (add-one, take-suc-set bytes i (rest % 256) (omega (arith, v.sized)), take-suc all i 0 (omega arith), v.written, byte);
          left = ap (λ (k : ℕ). drop k all) (add-one i) ∙ cc;
        }

    -- All are there.
    pub low_end : size ≤ i → bytes ≡ low_bytes size number
    low_end h =
        let long = low_count size number in
        sym (take_all i bytes (omega (arith, v.sized))) ∙ v.written ∙ take_all i (low_bytes size number) (omega arith)

-- There is room for them, and they were filled in over the start of the output.
pub low_room : (count number : ℕ) (output filled : List ℕ) → count ≤ length output → filled ≡ low_bytes (length (take count output)) number
    → (count ≡ put_length (low_bytes count number) output) × (filled ++ drop count output ≡ put_over (low_bytes count number) output)
unfolding over
low_room count number output filled h e =
    let long = low_count count number in
    let put = put_room (low_bytes count number) output (omega arith) in
    let size : length (take count output) ≡ count = omega (arith, length-take count output) in
    (omega (arith, put.0), rw (put.1, long, e, size))

-- There is no room for them.
pub low_none : (count number : ℕ) (output : List ℕ) → length output < count
    → (0 ≡ put_length (low_bytes count number) output) × (output ≡ put_over (low_bytes count number) output)
low_none count number output h =
    let put = put_none (low_bytes count number) output (omega (arith, low_count count number)) in (sym put.0, sym put.1)

-- A text of at most eight bytes, with zeros after it, spells what it spells.
pub spelt_is : (s : List ℕ) → length s ≤ 8 → from_le_bytes w64 (s ++ drop (length s) (replicate 8 0)) ≡ spelt s
unfolding spelt
spelt_is [] h = refl
spelt_is (a ∷ []) h = omega arith
spelt_is (a ∷ b ∷ []) h = omega arith
spelt_is (a ∷ b ∷ c ∷ []) h = omega arith
spelt_is (a ∷ b ∷ c ∷ d ∷ []) h = omega arith
spelt_is (a ∷ b ∷ c ∷ d ∷ e ∷ []) h = omega arith
spelt_is (a ∷ b ∷ c ∷ d ∷ e ∷ f ∷ []) h = omega arith
spelt_is (a ∷ b ∷ c ∷ d ∷ e ∷ f ∷ g ∷ []) h = omega arith
spelt_is (a ∷ b ∷ c ∷ d ∷ e ∷ f ∷ g ∷ i ∷ []) h = omega arith
spelt_is (a ∷ b ∷ c ∷ d ∷ e ∷ f ∷ g ∷ i ∷ j ∷ s) h = absurd (omega arith)

-- A number below that power of 256 is spelt by its first bytes.
pub spelt_low : (count number : ℕ) → number < 256 ^ count → spelt (low_bytes count number) ≡ number
unfolding spelt low_bytes
spelt_low zero number h = omega arith
spelt_low (suc count) number h = omega (arith, spelt_low count (number / 256) (omega (arith, rw pow-suc at h)))

-- What was written in at most eight bytes is read back.
pub low_back : (count number : ℕ) (output : List ℕ) → count ≤ 8 → number < 256 ^ count → count ≤ length output
    → spelt (take count (take 8 (put_over (low_bytes count number) output))) ≡ number
unfolding over
low_back count number output few small room =
    let long = low_count count number in
    rw ((put_room (low_bytes count number) output (omega arith)).1, take-take count 8 _ few, take_at (low_bytes count number) _ count long)
    (spelt_low count number small)
