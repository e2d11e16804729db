-- What the search for the cuts promises is the promise of packing: the wanted cuts of the observations of an accepted report, by their sets
-- and sizes, are those of its packed report.
use Prim.Native.Nat.{ℕ, ◌≤◌}
use mathlib.Core.Path.{◌≡◌, refl, ap, sym, ◌∙◌}
use mathlib.Core.List.{List, [], ◌∷◌, map}
use native.Mathlib.Omega.{arith}
use lib.Dec.{leb}
use lib.ListN.{length}
use borrow.Author.Tests.{leb-true, leb-false}
use Rattle.text.proofs.Bools.{bools}
use Rattle.element.specs.Observation.{Observation, set_of}
use Rattle.report.specs.Report.{text_limit, accepted, read}
use Rattle.report.proofs.Join.{read_accepted}
use Rattle.cuts.specs.Cuts.{same_mark, Cuts, Wanted}
use Rattle.cuts.specs.Plan.{Marked, marked_rows, marked_bytes}
use Rattle.cuts.specs.Cheapest.{chosen}
use Rattle.cuts.proofs.CheapestLaws.{chosen_wanted}
use Rattle.cuts.proofs.CutLaws.{cuts_to, cuts_from, stretch_map}
use Rattle.layout.specs.Written.{mark_of, may_follow, written, Valid}
use Rattle.layout.specs.Packed.{ShortestCuts, PackedIs}
use Rattle.layout.specs.Cost.{size_of, as_marked}
use Rattle.layout.proofs.Accepted.{AllRight, accepted_right}
use Rattle.layout.proofs.ReadsBack.{reads_back, reads_back_shorter}
use Rattle.layout.proofs.BlockBytes.{written_bytes}
use Rattle.layout.proofs.NoShorter.{Cutting, no_shorter}
use Rattle.layout.proofs.Unique.{packed_least}

-- The rows that the search is given: the marks, the sets and the sizes of the observations.
pub rows_are : (L : List Observation) → marked_rows (map mark_of L) (map set_of L) (map size_of L) ≡ map as_marked L
rows_are [] = refl
rows_are (o ∷ os) = ap (λ (rows : List Marked). as_marked o ∷ rows) (rows_are os)

-- The rows that the search puts into one block.
abbrev pub together : Marked → List Marked → ℕ
together = same_mark (λ marked. marked.mark)

-- They are those that may follow a row.
may_follow_lem : (o : Observation) (os : List Observation) → together (as_marked o) (map as_marked os) ≡ may_follow o os
may_follow_lem o os = stretch_map as_marked (λ marked. marked.mark) (mark_of o) os

-- Cuts of the observations are cuts of the rows.
pub valid_rows : (cuts : List ℕ) (L : List Observation) → Valid cuts L → Cuts together cuts (map as_marked L)
valid_rows cuts L v = cuts_to as_marked together may_follow may_follow_lem cuts L v

-- And the other way round.
pub rows_valid : (cuts : List ℕ) (L : List Observation) → Cuts together cuts (map as_marked L) → Valid cuts L
rows_valid cuts L v = cuts_from as_marked together may_follow may_follow_lem cuts L v

-- The wanted cuts are those of the packed report.
pub shortest : (t : List ℕ) (L : List Observation) (cuts : List ℕ) → read t ≡ accepted L → Wanted marked_bytes together (map as_marked L) cuts
    → ShortestCuts L cuts
shortest t L cuts h w =
    let r : AllRight L = accepted_right t L h in
    let v : Valid cuts L = rows_valid cuts L w.cuts in
    let n = written_bytes cuts L v r in
    let least : (other : List ℕ) → read other ≡ accepted L → length (written cuts L) ≤ length other = λ other g.
    let c : Cutting L (length other) = no_shorter other L g in
    omega (arith, c.within, written_bytes c.cuts L c.valid r, w.least c.cuts (valid_rows c.cuts L c.valid)) in
    record {
      valid = v;
      reads = reads_back_shorter t L cuts h v (least t h);
      least = least;
      last = λ others u e. w.last others (valid_rows others L u) (sym (written_bytes others L u r) ∙ (e ∙ n));
    }

-- Every accepted report has them.
pub has_cuts : (t : List ℕ) (L : List Observation) → read t ≡ accepted L → ShortestCuts L (chosen marked_bytes together (map as_marked L))
has_cuts t L h = shortest t L _ h (chosen_wanted marked_bytes together (map as_marked L))

-- However the observations of an accepted report are cut, what is written is no shorter than their packed report.
pub least_written : (t : List ℕ) (L : List Observation) → read t ≡ accepted L → {text : List ℕ} → PackedIs L text
    → (cuts : List ℕ) → Valid cuts L → length text ≤ length (written cuts L)
least_written t L h {text} p cuts v =
    bools (leb (length (written cuts L)) text_limit)
    (λ e. packed_least p (written cuts L) (reads_back t L cuts h v (leb-true (length (written cuts L)) text_limit e)))
    (λ e. omega (arith, packed_least p t h, (read_accepted t L h).0, leb-false (length (written cuts L)) text_limit e))
