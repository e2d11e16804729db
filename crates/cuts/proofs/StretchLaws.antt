-- Steps of cutting the rows stretch by stretch.
use mathlib.Core.Path.{◌≡◌, refl, sym, ap, subst, ◌∙◌}
use mathlib.Core.Bool.{Bool, true, false, cond}
use lib.Dec.{eqb}
use Rattle.std.specs.Bool.{◌==◌}
use Rattle.std.specs.List.{prefix_len}
use mathlib.Core.List.{List, [], ◌∷◌, ◌++◌, map, append_assoc, append-nil}
use Prim.Native.Nat.{ℕ, suc, ◌+◌, ◌-◌, ◌*◌, ◌^◌, ◌≤◌, ◌<◌}
use native.Mathlib.Omega.{arith}
use mir.Syntax.{w64}
use mir.Val.{Fits}
use lib.ListN.{length, take, drop, get_or, drop_of_length-le, length-append, length-drop, length-map}
use lib.Seq.{drop-cons, drop-drop, get_or-drop, length-take-le, take-append-add, drop-append-add}
use Rattle.cuts.specs.Cuts.{Yields, cost, Cuts, stretch, same_mark, Wanted}
use Rattle.cuts.specs.Block.{Row, rows_of, value_bytes, block_bytes, all_more}
use Rattle.cuts.specs.Plan.{Marked, marked_rows, marked_bytes, Planned}
use Rattle.cuts.specs.Look.{block_limit}
use Rattle.cuts.specs.Runs.{Ready}
use Rattle.cuts.specs.Stretches.{StretchEnds}
use Rattle.cuts.specs.declared.Plan.{Plan}
use Rattle.cuts.proofs.CutLaws.{take_map, drop_map, cost_map, wanted_map, stretch_map, cuts_sum}
use Rattle.cuts.proofs.SumLaws.{end, end_is, values_take_le, values_drop_le}
use Rattle.cuts.proofs.RowLaws.{rows_of_lem, marks_of_lem, rows_take, rows_drop, rows_long, low_take, cheap, block_limited, numbers_few}
use Rattle.cuts.proofs.StretchCuts.{stretch_more, wanted_stretch, cost_stretch}

-- ---- where a stretch ends

-- A stretch is as long as the marks that are the same.
prefix_stretch : (m : ℕ) (marks : List ℕ) → prefix_len (λ next. next == m) marks ≡ stretch (λ mark. mark) m marks
unfolding stretch
prefix_stretch m [] = refl
prefix_stretch m (x ∷ marks) =
    let one : 1 + prefix_len (λ next. next == m) marks ≡ suc (stretch (λ mark. mark) m marks) = omega (arith, prefix_stretch m marks) in
    ap (λ (n : ℕ). cond (eqb x m) n 0) one

stretch_within : (m : ℕ) (marks : List ℕ) → stretch (λ mark. mark) m marks ≤ length marks
unfolding stretch
stretch_within m [] = omega arith
stretch_within m (x ∷ marks) = go (eqb x m) (stretch_within m marks)
  where
    go : (b : Bool) → stretch (λ mark. mark) m marks ≤ length marks → cond b (suc (stretch (λ mark. mark) m marks)) 0 ≤ suc (length marks)
    go true h = omega arith
    go false h = omega arith

pub same_ends : (marks lent : List ℕ) (at n : ℕ) → at < length marks → lent ≡ drop at marks → n ≡ prefix_len (λ next. next == get_or marks at 0) lent → StretchEnds marks at (at + n)
same_ends marks lent at n h l e =
    let m = get_or marks at 0 in
    let is : n ≡ stretch (λ mark. mark) m (drop at marks) = e ∙ ap (prefix_len (λ next. next == m)) l ∙ prefix_stretch m (drop at marks) in
    record {
      some =
          omega (arith, is, ap (stretch (λ mark. mark) m) (drop-cons marks at 0 h), stretch_more (λ mark. mark) m m (drop (suc at) marks) refl);
      within = omega (arith, is, stretch_within m (drop at marks), length-drop at marks);
      is = omega (arith, is);
    }

-- ---- stretch by stretch

-- The cut list is wanted of the rows with marks.
abbrev pub MarkedWanted : List Marked → List ℕ → Type 0
MarkedWanted rows ks = Wanted marked_bytes (same_mark (λ marked. marked.mark)) rows ks

-- The rows before `at` are cut, in whole stretches: whatever is wanted of the rest is, after what is written, wanted of all rows.
pub record Begun (marks sets sizes before : List ℕ) (at blocks bytes : ℕ) (cuts : List ℕ) : Type 0 where
  pub within : at ≤ length sets
  pub few : blocks ≤ at
  pub low : bytes ≤ at * block_limit
  pub same : length cuts ≡ length before
  pub kept : drop blocks cuts ≡ drop blocks before
  pub wanted : (ls : List ℕ) → MarkedWanted (drop at (marked_rows marks sets sizes)) ls → MarkedWanted (marked_rows marks sets sizes) (take blocks cuts ++ ls)
  pub costs : (ls : List ℕ) → bytes + cost marked_bytes ls (drop at (marked_rows marks sets sizes)) ≡ cost marked_bytes (take blocks cuts ++ ls) (marked_rows marks sets sizes)

-- The lent part of a list comes back.
come_back : (l part : List ℕ) (n : ℕ) → take n l ++ (part ++ drop (length l - n) (drop n l)) ≡ take n l ++ part
come_back l part n =
    let none : drop (length l - n) (drop n l) ≡ [] = drop_of_length-le (drop n l) {i = length l - n} (omega (arith, length-drop n l)) in
    ap (λ (t : List ℕ). take n l ++ (part ++ t)) none ∙ ap (λ (t : List ℕ). take n l ++ t) (append-nil part)

-- The first n numbers of a list, and others after them.
module _ (l part : List ℕ) (n k : ℕ) (h : n ≤ length l) where
  front : length (take n l) ≡ n
  front = length-take-le n l h

  take_behind : take (n + k) (take n l ++ part) ≡ take n l ++ take k part
  take_behind = ap (λ (i : ℕ). take (i + k) (take n l ++ part)) (sym front) ∙ take-append-add (take n l) part k

  drop_behind : drop (n + k) (take n l ++ part) ≡ drop k part
  drop_behind = ap (λ (i : ℕ). drop (i + k) (take n l ++ part)) (sym front) ∙ drop-append-add (take n l) part k

-- The part of a list from one place up to another, as the code lends it.
abbrev part : List ℕ → ℕ → ℕ → List ℕ
part l from to = take (to - from) (drop from l)

-- The rows of such parts.
abbrev part_rows : List ℕ → List ℕ → ℕ → ℕ → List Row
part_rows sets sizes from to = rows_of (part sets from to) (part sizes from to)

module _ (marks sets sizes before : List ℕ) (at blocks bytes : ℕ) (cuts : List ℕ) (to : ℕ) (marked : length marks ≡ length sets) (ready : Ready sets sizes before)
    (b : Begun marks sets sizes before at blocks bytes cuts) (s : StretchEnds marks at to) where
  -- The part of a list with a number for each row is as long as the stretch.
  part_long : (l : List ℕ) → length l ≡ length sets → length (part l at to) ≡ to - at
  part_long l e = length-take-le (to - at) (drop at l) (omega (arith, length-drop at l, s.within))

  -- The rows of the stretch.
  part_rows_lem : part_rows sets sizes at to ≡ take (to - at) (drop at (rows_of sets sizes))
  part_rows_lem = sym (rows_take (to - at) (drop at sets) (drop at sizes)) ∙ ap (take (to - at)) (sym (rows_drop at sets sizes))

  room : length (end cuts blocks) ≡ length cuts - blocks
  room = ap length (end_is cuts blocks) ∙ length-drop blocks cuts

  -- The rows of the stretch are ready.
  pub part_ready : Ready (part sets at to) (part sizes at to) (end cuts blocks)
  part_ready = record {
    same = part_long sizes ready.same ∙ sym (part_long sets refl);
    few = omega (arith, part_long sets refl, ready.few, s.within);
    sum = omega (arith, ap value_bytes part_rows_lem, values_take_le (drop at (rows_of sets sizes)) (to - at), values_drop_le (rows_of sets sizes) at, ready.sum);
    room = omega (arith, part_long sets refl, room, s.within, ready.room, b.same, b.few);
  }

  -- The marked rows of the stretch.
  rest : List Marked
  rest = drop at (marked_rows marks sets sizes)

  marked_part : map (λ marked. marked.row) (take (to - at) rest) ≡ part_rows sets sizes at to
  unfolding rest
  marked_part =
      sym (take_map (λ marked. marked.row) (to - at) rest)
      ∙ ap (take (to - at)) (sym (drop_map (λ marked. marked.row) at (marked_rows marks sets sizes)) ∙ ap (drop at) (rows_of_lem marks sets sizes marked))
      ∙ sym part_rows_lem

  rest_marks : map (λ marked. marked.mark) rest ≡ drop at marks
  unfolding rest
  rest_marks = sym (drop_map (λ marked. marked.mark) at (marked_rows marks sets sizes)) ∙ ap (drop at) (marks_of_lem marks sets sizes marked ready.same)

  stretch_is : to - at ≡ stretch (λ (m : Marked). m.mark) (get_or marks at 0) rest
  stretch_is =
      omega (arith, s.is, ap (stretch (λ mark. mark) (get_or marks at 0)) rest_marks, stretch_map (λ (m : Marked). m.mark) (λ mark. mark) (get_or marks at 0) rest)

  rest_after : drop to (marked_rows marks sets sizes) ≡ drop (to - at) rest
  unfolding rest
  rest_after =
      let e : to ≡ at + (to - at) = omega (arith, s.some) in
      ap (λ (n : ℕ). drop n (marked_rows marks sets sizes)) e ∙ sym (drop-drop (to - at) at (marked_rows marks sets sizes))

  module _ (low : (k : ℕ) → get_or sets k 0 < 2 ^ 64) (plan : Plan) (after : List ℕ)
      (p : Planned block_bytes all_more (part_rows sets sizes at to) plan (end cuts blocks) after) where
    -- The cut list of the stretch.
    ks : List ℕ
    ks = take plan.blocks after

    rows_some : length (part_rows sets sizes at to) ≡ to - at
    rows_some = rows_long (part sets at to) (part sizes at to) part_ready.same ∙ part_long sets refl

    -- The plan has no more blocks than the stretch has rows, and its bytes are within the limit.
    blocks_few : plan.blocks ≤ to - at
    blocks_few =
        let r = cuts_sum (take plan.blocks after) (part_rows sets sizes at to) p.wanted.cuts in
        omega (arith, numbers_few (take plan.blocks after) r.0, r.1, rows_some, length-take-le plan.blocks after p.within)

    bytes_low : plan.bytes ≤ block_limit
    bytes_low =
        let Part-low = low_take (to - at) (drop at sets) (λ k. omega (arith, get_or-drop at sets k 0, low (at + k))) in
        let one = block_limited (part sets at to) (part sizes at to) Part-low part_ready.sum part_ready.few in
        omega (arith, p.bytes, one, cheap (part_rows sets sizes at to) (take plan.blocks after) (omega (arith, rows_some, s.some)) p.wanted)

    pub bytes_fit : Fits w64 (bytes + plan.bytes)
    bytes_fit = record { fits = omega (arith, bytes_low, b.low, b.within, ready.few) }

    -- The cut list is wanted of the marked rows of the stretch, and costs the same there.
    ks_wanted : Wanted marked_bytes (λ x xs. length xs) (take (to - at) rest) ks
    unfolding ks
    ks_wanted =
        let limit : (x : Marked) (xs : List Marked) → length (map (λ (m : Marked). m.row) xs) ≡ length xs = λ x xs. length-map xs (λ (m : Marked). m.row) in
        wanted_map (λ (m : Marked). m.row) block_bytes marked_bytes (λ b. refl) all_more (λ x xs. length xs) limit (take (to - at) rest) (take plan.blocks after)
        (rw marked_part p.wanted)

    ks_cost : plan.bytes ≡ cost marked_bytes ks (take (to - at) rest)
    unfolding ks
    ks_cost =
        p.bytes ∙ ap (cost block_bytes (take plan.blocks after)) (sym marked_part)
        ∙ cost_map (λ (m : Marked). m.row) block_bytes marked_bytes (λ b. refl) (take plan.blocks after) (take (to - at) rest)

    -- With this stretch the rows before its end are cut.
    within_cuts : blocks ≤ length cuts
    within_cuts = omega (arith, b.few, b.within, b.same, ready.room)

    begun_on : length after ≡ length (end cuts blocks) → Begun marks sets sizes before to (blocks + plan.blocks) (bytes + plan.bytes) (take blocks cuts ++ after)
    unfolding ks rest
    begun_on long =
        let rows = marked_rows marks sets sizes in
        let wrote = take_behind cuts after blocks plan.blocks within_cuts in
        let joined : (ls : List ℕ) → take (blocks + plan.blocks) (take blocks cuts ++ after) ++ ls ≡ take blocks cuts ++ (ks ++ ls)
        = λ ls. ap (λ (l : List ℕ). l ++ ls) wrote ∙ append_assoc (take blocks cuts) ks ls in
        record {
          within = omega (arith, s.within);
          few = omega (arith, b.few, blocks_few, s.some);
          low = omega (arith, b.low, bytes_low, s.some);
          same = omega (arith, length-append (take blocks cuts) after, length-take-le blocks cuts within_cuts, long, room, b.same, within_cuts);
          kept =
              drop_behind cuts after blocks plan.blocks within_cuts ∙ p.kept
              ∙ ap (drop plan.blocks) (end_is cuts blocks ∙ b.kept) ∙ drop-drop plan.blocks blocks before;
          wanted = λ ls w.
              rw (joined ls)
              (b.wanted (ks ++ ls) (wanted_stretch (λ m. m.mark) marked_bytes (get_or marks at 0) (to - at) rest stretch_is ks ls ks_wanted (rw rest_after at w)));
          costs = λ ls.
              let c = cost_stretch (λ m. m.mark) marked_bytes (get_or marks at 0) (to - at) rest stretch_is ks ls ks_wanted.cuts in
              omega (arith, ap (cost marked_bytes ls) rest_after, c, ks_cost, b.costs (ks ++ ls), ap (λ (l : List ℕ). cost marked_bytes l rows) (joined ls));
        }

    -- The same, as the lent part comes back.
    pub begun_more : length after ≡ length (end cuts blocks)
        → Begun marks sets sizes before to (blocks + plan.blocks) (bytes + plan.bytes) (take blocks cuts ++ (after ++ drop (length cuts - blocks) (drop blocks cuts)))
    begun_more long = rw (come_back cuts after blocks) (begun_on long)

-- Of no rows the empty cut list is wanted.
nothing_wanted : {A : Type 0} (C : List A → ℕ) (more : A → List A → ℕ) → Wanted C more [] []
nothing_wanted C more = record { cuts = tt; least = λ js v. omega arith; last = empty }
  where
    empty : (js : List ℕ) → Cuts more js [] → cost C js [] ≡ 0 → Yields js []
    empty [] v e = tt
    empty (j ∷ js) v e = absurd v

-- All stretches are cut.
pub all_planned : (marks sets sizes before : List ℕ) (at blocks bytes : ℕ) (cuts : List ℕ) → length marks ≡ length sets → length marks ≤ at → Ready sets sizes before
    → Begun marks sets sizes before at blocks bytes cuts
    → Planned marked_bytes (same_mark (λ marked. marked.mark)) (marked_rows marks sets sizes) (record { blocks = blocks; bytes = bytes }) before cuts
all_planned marks sets sizes before at blocks bytes cuts e h ready b =
    let long = ap length (marks_of_lem marks sets sizes e ready.same) in
    let left : drop at (marked_rows marks sets sizes) ≡ [] =
    drop_of_length-le (marked_rows marks sets sizes) {i = at} (omega (arith, long, length-map (marked_rows marks sets sizes) (λ (m : Marked). m.mark))) in
    let none : MarkedWanted (drop at (marked_rows marks sets sizes)) [] = rw left (nothing_wanted marked_bytes (same_mark (λ marked. marked.mark))) in
    record {
      within = omega (arith, b.few, b.within, b.same, ready.room);
      wanted = subst (MarkedWanted (marked_rows marks sets sizes)) (append-nil (take blocks cuts)) (b.wanted [] none);
      bytes = omega (arith, b.costs [], ap (λ (l : List ℕ). cost marked_bytes l (marked_rows marks sets sizes)) (append-nil (take blocks cuts)));
      kept = b.kept;
    }

pub ruleset stretch_needs = (part_ready, begun_more, all_planned)
