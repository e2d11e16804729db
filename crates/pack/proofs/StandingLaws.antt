-- Laws of lines that stand in the report as they are to be written, field by field.
use Prim.Native.Nat.{ℕ, ◌+◌, ◌-◌, ◌/◌, ◌%◌, ◌^◌, ◌≤◌, ◌<◌, suc}
use mathlib.Core.Path.{◌≡◌, refl, sym, ap, ◌∙◌}
use mathlib.Core.List.{List, [], ◌∷◌, ◌++◌, append_assoc, map}
use native.Mathlib.Numerals.{add-one}
use native.Mathlib.Omega.{arith}
use lib.ListN.{length, take, drop, get_or, length-append, length-drop, length-map}
use lib.Seq.{take-add, take-suc, drop-drop, get_or-drop}
use Rattle.element.specs.Table.{elements}
use Rattle.report.specs.Index.{row_at}
use Rattle.report.specs.declared.index.Row.{Row}
use Rattle.layout.specs.Written.{line_of}
use Rattle.pack.specs.Inner.{observed, Indexed, value_in, end_of, field_text, StandsTo}
use Rattle.pack.proofs.IndexLaws.{value_absent, value_long, value_there}
use Rattle.pack.proofs.FieldLaws.{line_left, line_next, map_at}

-- A value, and the byte after it.
pub stand_field : (report value : List ℕ) (start end r : ℕ) → take (length value) (drop start report) ≡ value
    → (r ≡ start + length value + 1) × (start + length value < length report) × (get_or report (start + length value) 0 ≡ end)
    → StandsTo report start (field_text value end) r
stand_field report value start end r e b =
    let long : length (field_text value end) ≡ suc (length value) = length-append value (end ∷ []) ∙ add-one (length value) in
    record {
      ends = omega (arith, long, b.0);
      inside = omega (arith, b.0, b.1);
      is =
          ap (λ (n : ℕ). take n (drop start report)) long
          ∙ (take-suc (drop start report) (length value) 0 (omega (arith, length-drop start report, b.1))
          ∙ (λ i. e i ++ ((get_or-drop start report (length value) 0 ∙ b.2) i ∷ [])));
    }

-- A byte stands at a place, and the place after it.
abbrev ByteTo : List ℕ → ℕ → ℕ → ℕ → Type 0
ByteTo report at byte r = (r ≡ at + 1) × (at < length report) × (get_or report at 0 ≡ byte)

-- The value of an element of a row, where the index notes it, and where it is absent.
module _ {report : List ℕ} {index : List Row} (row element : ℕ) (x : Indexed report index) (inside : row < length (observed report)) (start end : ℕ) where
  pub field_there : element < elements → (row_at index row).present / 2 ^ element % 2 ≡ 1 → (w l : ℕ) → w ≡ get_or (row_at index row).starts element 0 → w ≡ start
      → l ≡ get_or (row_at index row).lengths element 0 → (r : ℕ) → ByteTo report (start + l) end r → StandsTo report start (field_text (value_in report row element) end) r
  field_there known h w l e s d r b =
      let long : l ≡ length (value_in report row element) = d ∙ value_long row element x inside known h in
      let there : take (length (value_in report row element)) (drop start report) ≡ value_in report row element =
      (λ i. take ((sym long ∙ d) i) (drop ((sym s ∙ e) i) report)) ∙ value_there row element x inside known h in
      stand_field report (value_in report row element) start end r there (rw long at b)

  pub field_absent : ((row_at index row).present / 2 ^ element % 2 ≡ 1 → ⊥) → (r : ℕ) → ByteTo report start end r → StandsTo report start (field_text (value_in report row element) end) r
  field_absent h r b =
      let here : start + 0 ≡ start = omega arith in
      rw (← value_absent row element x inside h)
      (stand_field report [] start end r refl (omega (arith, b.0), omega (arith, b.1), ap (λ (k : ℕ). get_or report k 0) here ∙ b.2))

-- The first of a line's fields stand in the report, from the start up to `at`; the rest is left.
pub record Standing (report : List ℕ) (start : ℕ) (text : List ℕ) (at k : ℕ) (rest : List ℕ) : Type 0 where
  pub within : start ≤ at
  pub inside : 0 < k → at ≤ length report
  pub is : take (at - start) (drop start report) ++ rest ≡ text

-- A piece more.
stand_next : (report : List ℕ) (start : ℕ) (text : List ℕ) (at k next : ℕ) (piece rest : List ℕ) → Standing report start text at k (piece ++ rest)
    → StandsTo report at piece next → Standing report start text next (k + 1) rest
stand_next report start text at k next piece rest s p =
    let more : next - start ≡ (at - start) + length piece = omega (arith, s.within, p.ends) in
    let there : start + (at - start) ≡ at = omega (arith, s.within) in
    record {
      within = omega (arith, s.within, p.ends);
      inside = λ h. p.inside;
      is =
          ap (λ (n : ℕ). take n (drop start report) ++ rest) more
          ∙ (ap (λ (l : List ℕ). l ++ rest) (take-add (at - start) (length piece) (drop start report)
          ∙ ap (λ (l : List ℕ). take (at - start) (drop start report) ++ take (length piece) l) (drop-drop (at - start) start report ∙ ap (λ (n : ℕ). drop n report) there)
          ∙ ap (λ (l : List ℕ). take (at - start) (drop start report) ++ l) p.is)
          ∙ (append_assoc (take (at - start) (drop start report)) piece rest ∙ s.is));
    }

-- A line of a field for each column.
module _ (f : ℕ → List ℕ) (columns report : List ℕ) (start : ℕ) where
  abbrev line : List ℕ
  line = line_of (map f columns)

  pub stand_more : (at k end next : ℕ) → k < length columns → end ≡ end_of (k + 1) (length columns)
      → Standing report start line at k (line_left (drop k (map f columns))) → StandsTo report at (field_text (f (get_or columns k 0)) end) next
      → Standing report start line next (k + 1) (line_left (drop (k + 1) (map f columns)))
  stand_more at k end next h e s p =
      stand_next report start line at k next (field_text (f (get_or columns k 0)) end) (line_left (drop (k + 1) (map f columns)))
      (rw (e, ← length-map columns f, ← map_at f columns k h, ← line_next (map f columns) k (omega (arith, length-map columns f))) s) p
