-- Laws of the rows of a text's blocks: one for each step and each end of the loop that fills them in.
use Prim.Native.Nat.{ℕ, zero, suc, ◌+◌, ◌-◌, ◌≤◌, ◌<◌}
use mathlib.Core.Path.{◌≡◌, refl, ap, sym, ◌∙◌}
use mathlib.Core.List.{List, [], ◌∷◌, ◌++◌, append_assoc}
use native.Mathlib.Numerals.{add-one}
use native.Mathlib.Omega.{arith}
use lib.ListN.{length, take, drop, set, length-drop, length-take, length-set, take-append-drop}
use lib.Seq.{drop-drop, take-suc-set, drop-set-lt}
use Rattle.text.specs.Output.{over}
use Rattle.inspect.specs.Part.{marks_in}
use Rattle.inspect.specs.Blocks.{block_length, rows_in, block_rows}

-- The rows of a text that has a block.
rows_cons : (room : ℕ) (s : List ℕ) → 0 < length s → block_rows (suc room) s ≡ rows_in (take (block_length s) s) ∷ block_rows room (drop (block_length s) s)
unfolding block_rows
rows_cons room [] h = absurd (omega arith)
rows_cons room (b ∷ s) h = refl

-- Without bytes or without room there are none.
rows_none : (room : ℕ) (s : List ℕ) → length s ≤ 0 → block_rows room s ≡ []
unfolding block_rows
rows_none zero s h = refl
rows_none (suc room) [] h = refl
rows_none (suc room) (b ∷ s) h = absurd (omega arith)

rows_full : (s : List ℕ) → block_rows 0 s ≡ []
unfolding block_rows
rows_full s = refl

-- What the loop keeps: the rows filled in, and those of the text that is left, are those of the whole; what is not yet filled in is as it was.
pub record Filling (text rows₀ rows : List ℕ) (start k : ℕ) : Type 0 where
  pub within : k ≤ length rows
  pub inside : start ≤ length text
  pub long : length rows ≡ length rows₀
  pub filled : take k rows ++ block_rows (length rows₀ - k) (drop start text) ≡ block_rows (length rows₀) text
  pub kept : drop k rows ≡ drop k rows₀

pub fill_start : (text rows : List ℕ) → Filling text rows rows 0 0
fill_start text rows = record {
  within = omega arith;
  inside = omega arith;
  long = refl;
  filled = let z : length rows - 0 ≡ length rows = omega arith in rw z;
  kept = refl;
}

-- One block more.
pub fill_on : {text rows₀ rows : List ℕ} {start k : ℕ} → Filling text rows₀ rows start k → k < length rows → start < length text
    → (rest block : List ℕ) (size value : ℕ) → rest ≡ drop start text → size ≡ block_length rest → size ≤ length rest → block ≡ take size rest
    → value ≡ marks_in 10 block - 2 → Filling text rows₀ (set rows k value) (start + size) (k + 1)
fill_on {text} {rows₀} {rows} {start} {k} v h l rest block size value r n w b e =
    let s : 0 < length rest = omega (arith, ap length r, length-drop start text) in
    let room : length rows₀ - k ≡ suc (length rows₀ - (k + 1)) = omega (arith, v.long) in
    let is : value ≡ rows_in (take (block_length rest) rest) = e ∙ ap rows_in (b ∙ ap (λ (x : ℕ). take x rest) n) in
    let on : drop (block_length rest) rest ≡ drop (start + size) text = ap (λ (x : ℕ). drop x rest) (sym n) ∙ ap (λ (x : List ℕ). drop size x) r ∙ drop-drop size start text in
    let more : block_rows (length rows₀ - k) (drop start text) ≡ value ∷ block_rows (length rows₀ - (k + 1)) (drop (start + size) text) =
    rw (room, ← r, rows_cons (length rows₀ - (k + 1)) rest s, ← is, on) in
    record {
      within = omega (arith, length-set rows k value);
      inside = omega (arith, ap length r, length-drop start text);
      long = length-set rows k value ∙ v.long;
      filled =
          ap (λ (x : List ℕ). x ++ block_rows (length rows₀ - (k + 1)) (drop (start + size) text))
          (ap (λ (x : ℕ). take x (set rows k value)) (add-one k) ∙ take-suc-set rows k value h)
          ∙ append_assoc (take k rows) (value ∷ []) _ ∙ ap (λ (x : List ℕ). take k rows ++ x) (sym more) ∙ v.filled;
      kept = drop-set-lt (k + 1) rows k value (omega arith) ∙ further v.kept;
    }
  where
    further : drop k rows ≡ drop k rows₀ → drop (k + 1) rows ≡ drop (k + 1) rows₀
    further e = sym (drop-drop 1 k rows) ∙ ap (λ (x : List ℕ). drop 1 x) e ∙ drop-drop 1 k rows₀

-- The end: no room is left, or no text.
fill_end : {text rows₀ rows : List ℕ} {start k : ℕ} → Filling text rows₀ rows start k → block_rows (length rows₀ - k) (drop start text) ≡ []
    → (k ≡ length (block_rows (length rows₀) text)) × (rows ≡ over (block_rows (length rows₀) text) rows₀) × (k ≤ length rows)
unfolding over
fill_end {text} {rows₀} {rows} {start} {k} v e =
    let f : take k rows ≡ block_rows (length rows₀) text = sym (append_none (take k rows)) ∙ ap (λ (x : List ℕ). take k rows ++ x) (sym e) ∙ v.filled in
    let n : k ≡ length (block_rows (length rows₀) text) = omega (arith, length-take k rows, ap length f, v.within) in
    (n, sym (take-append-drop k rows) ∙ rw (f, v.kept, ← n) refl, v.within)
  where
    append_none : (l : List ℕ) → l ++ [] ≡ l
    append_none [] = refl
    append_none (x ∷ l) = ap (λ (r : List ℕ). x ∷ r) (append_none l)

pub fill_text : {text rows₀ rows : List ℕ} {start k : ℕ} → Filling text rows₀ rows start k → length text ≤ start
    → (k ≡ length (block_rows (length rows₀) text)) × (rows ≡ over (block_rows (length rows₀) text) rows₀) × (k ≤ length rows)
fill_text {text} {rows₀} {rows} {start} {k} v h = fill_end v (rows_none (length rows₀ - k) (drop start text) (omega (arith, length-drop start text)))

pub fill_room : {text rows₀ rows : List ℕ} {start k : ℕ} → Filling text rows₀ rows start k → length rows ≤ k
    → (k ≡ length (block_rows (length rows₀) text)) × (rows ≡ over (block_rows (length rows₀) text) rows₀) × (k ≤ length rows)
fill_room {text} {rows₀} {rows} {start} {k} v h =
    fill_end v (let z : length rows₀ - k ≡ 0 = omega (arith, v.long) in rw z (rows_full (drop start text)))
