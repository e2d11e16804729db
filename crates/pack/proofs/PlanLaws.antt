-- Laws of planning: the index of an accepted report notes its observations, their sizes are within the text limit, and the cuts of its
-- rows write its packed report.
use Prim.Native.Nat.{ℕ, zero, suc, ◌+◌, ◌≤◌, ◌<◌}
use mathlib.Core.Path.{◌≡◌, refl, sym, ap, ◌∙◌}
use mathlib.Core.Bool.{true}
use mathlib.Core.List.{List, [], ◌∷◌, map}
use native.Mathlib.Nat.{zero-add}
use native.Mathlib.Omega.{arith}
use lib.ListN.{length, take, drop, get_or, length-take, length-map, get_or-map}
use lib.Seq.{take-length, length-take-le, get_or-take, ext_get_or}
use borrow.Author.Tests.{eq-eqb, le-leb}
use Rattle.refusal.specs.declared.Refusal.{Refusal}
use Rattle.element.specs.Set.{bytes_in}
use Rattle.element.specs.Observation.{Observation, set_of}
use Rattle.element.proofs.Sets.{set_radar}
use Rattle.report.specs.Report.{accepted, read}
use Rattle.report.specs.Index.{row_at, room_in, noted_bytes, sizes_in, Sized, AcceptedIs, IndexIs}
use Rattle.report.specs.declared.index.Row.{Row}
use Rattle.report.proofs.AnswerLaws.{accepted_of}
use Rattle.report.proofs.Join.{read_accepted}
use Rattle.cuts.specs.Cuts.{cost, Cuts}
use Rattle.cuts.specs.Block.{most_rows, most_bytes, total, value_bytes, bytes_of, block_bytes}
use Rattle.cuts.specs.Plan.{ShortestPromised, Marked, marked_bytes, ready, Planned}
use Rattle.cuts.specs.declared.Plan.{Plan}
use Rattle.layout.specs.Written.{mark_of, Valid}
use Rattle.layout.specs.Cost.{size_of, as_marked}
use Rattle.layout.proofs.Accepted.{Right, AllRight, accepted_right, accepted_rows}
use Rattle.layout.proofs.NoShorter.{Cutting, no_shorter}
use Rattle.layout.proofs.BlockBytes.{written_bytes}
use Rattle.layout.proofs.Packed.{rows_are, together, valid_rows, rows_valid, shortest}
use Rattle.pack.specs.Inner.{observations_of, observed, Indexed, mark_in, RowsCut, RoomFor, CutIs, PlannedIs}
use Rattle.std.specs.Prelude.{Result, Ok}
use Rattle.pack.proofs.BlockLaws.{rows_sets}
use Rattle.pack.proofs.SizeLaws.{noted_size}

-- The observations of an accepted report.
pub observed_is : (report : List ℕ) {L : List Observation} → read report ≡ accepted L → observed report ≡ L
unfolding observed
observed_is report e = ap observations_of e

-- The index.

-- The index notes every observation, where it has room for them.
pub indexed : {report : List ℕ} {old now : List Row} {cuts : List ℕ} {most k : ℕ} → RoomFor (length (observed report)) most old cuts
    → AcceptedIs report 0 (room_in old) now k → length now ≡ length old → (k ≡ length (observed report)) × Indexed report now
indexed {report} {old} {now} {cuts} {most} {k} r a l =
    let o : observed report ≡ a.observations = observed_is report a.is in
    let n : k ≡ length (observed report) = sym a.count ∙ ap length (sym o) in (
      n,
      record {
        room = omega (arith, r.rows_room);
        noted = λ i h. rw o (rw (zero-add i) at (a.noted i (omega (arith, r.rows_room)) (omega arith)));
      },
    )

-- The sizes.

-- The bytes of the values of rows.
abbrev marked_values : List Marked → ℕ
marked_values rows = value_bytes (map (λ marked. marked.row) rows)

-- They are the sum of their sizes.
values_total : (L : List Observation) → marked_values (map as_marked L) ≡ total (map size_of L)
unfolding value_bytes total
values_total [] = refl
values_total (o ∷ os) = ap (λ (n : ℕ). size_of o + n) (values_total os)

-- Those of the first rows and those of the others.
values_cut : (k : ℕ) (rows : List Marked) → marked_values (take k rows) + marked_values (drop k rows) ≡ marked_values rows
unfolding value_bytes
values_cut zero rows = omega arith
values_cut (suc k) [] = omega arith
values_cut (suc k) (x ∷ xs) = omega (arith, values_cut k xs)

block_values : (rows : List Marked) → marked_values rows ≤ marked_bytes rows
unfolding block_bytes bytes_of
block_values rows = omega arith

-- Cut rows cost no less than their values.
cost_values : (ks : List ℕ) (rows : List Marked) → Cuts together ks rows → marked_values rows ≤ cost marked_bytes ks rows
cost_values [] [] v = unfold value_bytes in omega arith
cost_values [] (x ∷ xs) v = absurd v
cost_values (k ∷ ks) [] v = absurd v
cost_values (zero ∷ ks) (x ∷ xs) v = absurd v
cost_values (suc k ∷ ks) (x ∷ xs) v =
    omega (arith, values_cut (suc k) (x ∷ xs), block_values (x ∷ take k xs), cost_values ks (drop k xs) v.1)

-- The values of an accepted report are within the text limit.
pub values_few : (report : List ℕ) (L : List Observation) → read report ≡ accepted L → total (map size_of L) ≤ most_bytes
values_few report L h =
    let c : Cutting L (length report) = no_shorter report L h in
    omega (
      arith,
      values_total L,
      cost_values c.cuts (map as_marked L) (valid_rows c.cuts L c.valid),
      written_bytes c.cuts L c.valid (accepted_right report L h),
      c.within,
      (read_accepted report L h).0,
    )

-- An observation of a list of right ones is right.
right_at : (L : List Observation) (i : ℕ) → AllRight L → i < length L → Right (get_or L i [])
right_at [] i r h = absurd (omega arith)
right_at (o ∷ os) zero r h = r.0
right_at (o ∷ os) (suc i) r h = right_at os i r.1 (omega arith)

-- The marks of the rows, from their sets.
marks_of_lem : (L : List Observation) → map mark_in (map set_of L) ≡ map mark_of L
marks_of_lem [] = refl
marks_of_lem (o ∷ os) = rw (set_radar o, marks_of_lem os)

module _ {report : List ℕ} {index : List Row} (is : read report ≡ accepted (observed report)) (x : Indexed report index) where
  -- The size of a row, as the index notes it.
  size_at : (i : ℕ) → i < length (observed report) → noted_bytes (row_at index i) ≡ size_of (get_or (observed report) i [])
  size_at i h =
      let right : Right (get_or (observed report) i []) = right_at (observed report) i (accepted_right report (observed report) is) h in
      rw (x.noted i h).set_is (noted_size (get_or (observed report) i []) (row_at index i).lengths
      (λ e k p. ((x.noted i h).shows e (omega (arith, right.long)) p).length_is))

  -- The sizes that are noted.
  sizes_of : map noted_bytes (take (length (observed report)) index) ≡ map size_of (observed report)
  unfolding size_of bytes_in
  sizes_of =
      let n : ℕ = length (observed report) in
      let l : length (take (length (observed report)) index) ≡ length (observed report) = length-take-le _ index x.room in
      ext_get_or 0 (map noted_bytes (take (length (observed report)) index)) (map size_of (observed report))
      (length-map (take (length (observed report)) index) noted_bytes ∙ (l ∙ sym (length-map (observed report) size_of)))
      (λ i h.
      let k : i < length (observed report) = omega (arith, length-map (take (length (observed report)) index) noted_bytes) in
      get_or-map noted_bytes (take (length (observed report)) index) i (record { present = 0; starts = []; lengths = [] })
      ∙ (ap noted_bytes (get_or-take (length (observed report)) index i _ k) ∙ (size_at i k ∙ sym (get_or-map size_of (observed report) i []))))

  -- The sets that are noted.
  sets_of : map (λ (row : Row). row.present) (take (length (observed report)) index) ≡ map set_of (observed report)
  sets_of = rw (take-length (observed report)) at (rows_sets 0 (length (observed report)) x (omega arith))

  -- The marks of these.
  marks_are : map (λ (row : Row). mark_in row.present) (take (length (observed report)) index) ≡ map mark_of (observed report)
  marks_are = sym (map_map (take (length (observed report)) index)) ∙ (ap (map mark_in) sets_of ∙ marks_of_lem (observed report))
    where
      map_map : (rows : List Row) → map mark_in (map (λ (row : Row). row.present) rows) ≡ map (λ (row : Row). mark_in row.present) rows
      map_map [] = refl
      map_map (r ∷ rs) = ap (λ (l : List ℕ). mark_in r.present ∷ l) (map_map rs)

  -- The input of the search is ready.
  sets_ready : (cuts : List ℕ) → length (observed report) ≤ length cuts
      → ready (map mark_of (observed report)) (map set_of (observed report)) (map size_of (observed report)) cuts ≡ true
  unfolding ready
  sets_ready cuts h =
      let l = length-map (observed report) mark_of in
      let m = length-map (observed report) set_of in
      let n = length-map (observed report) size_of in
      rw (
        eq-eqb (length (map mark_of (observed report))) (length (map set_of (observed report))) (l ∙ sym m),
        eq-eqb (length (map size_of (observed report))) (length (map set_of (observed report))) (n ∙ sym m),
        le-leb (length (map set_of (observed report))) most_rows (omega (arith, accepted_rows report (observed report) is)),
        le-leb (length (map set_of (observed report))) (length cuts) (omega arith),
        le-leb (total (map size_of (observed report))) most_bytes (values_few report (observed report) is),
      )

  -- So its cuts are those of the packed report.
  pub cuts_planned : {before after : List ℕ} {plan : Plan} → RowsCut (take (length (observed report)) index) before after plan
      → length (observed report) ≤ length before → CutIs report index after plan
  cuts_planned {before} {after} {plan} r room =
      let p : Planned marked_bytes together (map as_marked (observed report)) plan before after =
      rw (marks_are, sets_of, sizes_of, sets_ready before room, rows_are (observed report)) at r.promised in
      let v : Valid (take plan.blocks after) (observed report) = rows_valid (take plan.blocks after) (observed report) p.wanted.cuts in
      record {
        is = is;
        indexed = x;
        within = p.within;
        shortest = shortest report (observed report) (take plan.blocks after) is p.wanted;
        bytes_are = p.bytes ∙ sym (written_bytes (take plan.blocks after) (observed report) v (accepted_right report (observed report) is));
      }

-- Planning.

-- The sizes that are filled in are those that are noted, where there is room for just as many.
sizes_filled : (rows : List Row) {before after : List ℕ} {count : ℕ} → length before ≡ length rows → count ≡ sizes_in rows before → Sized rows before after count
    → after ≡ map noted_bytes rows
unfolding bytes_in
sizes_filled rows {before} {after} {count} l n s =
    ext_get_or 0 after (map noted_bytes rows) (s.long ∙ (l ∙ sym (length-map rows noted_bytes)))
    (λ i h. s.at i (omega (arith, s.long, l, n)) ∙ sym (get_or-map noted_bytes rows i (record { present = 0; starts = []; lengths = [] })))

-- What is cut by the marks, the sets and the sizes that were filled in.
pub rows_cut : {rows : List Row} {sizes-before : List ℕ} → length sizes-before ≡ length rows → {marks sets sizes : List ℕ}
    → marks ≡ map (λ (row : Row). mark_in row.present) rows → sets ≡ map (λ (row : Row). row.present) rows
    → {count : ℕ} → (count ≡ sizes_in rows sizes-before) × Sized rows sizes-before sizes count
    → {before after : List ℕ} {plan : Plan} → ShortestPromised marks sets sizes plan before after → RowsCut rows before after plan
rows_cut {rows} l m s f p = record { promised = rw (m, s, sizes_filled rows l f.0 f.1) at p }

module _ {report : List ℕ} {old index : List Row} {cuts : List ℕ} {most : ℕ} {answer : Result ℕ Refusal} {k : ℕ}
    (room : RoomFor (length (observed report)) most old cuts)
    (i : IndexIs report 0 (room_in old) index answer) (kept : length index ≡ length old) (e : answer ≡ Ok k) where
  noted : (k ≡ length (observed report)) × Indexed report index
  noted = indexed room (accepted_of i e) kept

  -- The rows of an accepted report can be cut.
  pub rows_ask : (k ≤ length index) × (length (take k index) ≤ most)
  rows_ask = (omega (arith, noted.0, noted.1.room), omega (arith, noted.0, room.few, length-take k index))

  -- They are cut.
  pub plan_cut : {after : List ℕ} {plan : Plan} → RowsCut (take k index) cuts after plan → PlannedIs report index after (Ok plan)
  plan_cut r =
      let a = accepted_of i e in
      record { case = cuts_planned (rw (observed_is report a.is) a.is) noted.1 (rw noted.0 at r) room.cuts_room }
