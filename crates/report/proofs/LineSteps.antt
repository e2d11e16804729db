-- Laws of a line: what it comes to, by each way that it can be taken.
use Prim.Native.Nat.{ℕ}
use mathlib.Core.Path.{◌≡◌, refl, ap, sym, subst, ◌∙◌}
use mathlib.Core.Logic.{◌⊎◌, inl, inr}
use mathlib.Core.List.{List, [], ◌∷◌}
use mathlib.Core.Bool.{Bool, true, false}
use lib.Dec.{eqb}
use borrow.Author.Tests.{eq-eqb, ne_eqb, eqb-true, eqb-false}
use Rattle.std.specs.Prelude.{Option, Result, Ok, Err}
use Rattle.std.specs.List.{starts_with}
use Rattle.text.specs.Lines.{fields, printable}
use Rattle.text.specs.Part.{same}
use Rattle.text.proofs.Bools.{bools}
use Rattle.refusal.specs.Paper.{at}
use Rattle.refusal.specs.declared.Fault.{Fault}
use Rattle.refusal.specs.declared.Kind.TheVariants.{WrongByte, VersionExpected}
use Rattle.report.specs.Report.{Step, next, bad, is_hash, version_line, columns_from, data_line, opened, other, step}
use Rattle.report.specs.declared.index.Row.{Row}
use Rattle.report.specs.Inner.{between, state_of, NamedIs, RowIs, TookLine, step_at, other_at, opened_to, rows_of, after_rows}
use Rattle.report.specs.declared.state.Need.{Need}
use Rattle.report.specs.declared.state.State.{State as CodeState}
use Rattle.report.specs.declared.state.Taken.{Taken}

-- A line starts with `#` where its first byte is one.
pub hash_is : (l : List ℕ) → starts_with eqb l (35 ∷ []) ≡ is_hash l
hash_is [] = refl
hash_is (b ∷ l) =
    bools (eqb b 35)
    (λ e. rw (e, eq-eqb 35 b (sym (eqb-true b 35 e))))
    (λ e. rw (e, ne_eqb 35 b (λ z. eqb-false b 35 e (sym z))))

-- A line that does not begin with `#`, by what the block needs.
module _ {need : Need} (columns : List ℕ) (radar : Bool) (k : ℕ) (l : List ℕ) where
  pub due_version : need ≡ Need.Version → other need columns radar k l ≡ bad VersionExpected 0
  due_version e = ap (λ (n : Need). other n columns radar k l) e

  due_columns : need ≡ Need.Columns → other need columns radar k l ≡ columns_from [] (fields l)
  due_columns e = ap (λ (n : Need). other n columns radar k l) e

  pub due_rows : (need ≡ Need.Row) ⊎ (need ≡ Need.Nothing) → {before : Option Bool} → before ≡ rows_of need radar
      → other need columns radar k l ≡ after_rows before (data_line columns k l)
  due_rows (inl e) b = rw (b, e)
  due_rows (inr e) b = rw (b, e)

-- A column line, where one is due.
module _ {t columns : List ℕ} {x : Row} {from till k : ℕ} (s : CodeState) {r : Result (List ℕ) Fault} (due : s.need ≡ Need.Columns)
    (h : NamedIs (between t from till) r) where
  pub line_columns : {columns' : List ℕ} → r ≡ Ok columns'
      → TookLine t columns columns' x x from till k (other_at t from till s columns k) (Ok (Taken.Next (record { need = Need.Row; radar = false })))
  line_columns e = record { case = record { is = due_columns columns s.radar k (between t from till) due ∙ rw e at h.case; same = refl } }

  pub line_unnamed : {f : Fault} → r ≡ Err f → TookLine t columns columns x x from till k (other_at t from till s columns k) (Err f)
  line_unnamed e = record { case = due_columns columns s.radar k (between t from till) due ∙ rw e at h.case }

-- A data line, where one may stand: after a column line, or after rows of the block.
module _ {t columns : List ℕ} {x y : Row} {from till k : ℕ} {taken : Step} {before : Option Bool}
    (due : taken ≡ after_rows before (data_line columns k (between t from till)))
    {r : Result Bool Fault} (h : RowIs t columns y from till k before r) where
  pub line_row : {radar : Bool} → r ≡ Ok radar → TookLine t columns columns x y from till k taken (Ok (Taken.Noted radar))
  line_row e =
      let n = rw e at h.case in
      record { case = record { got = n.got; is = due ∙ n.is; kind_is = n.kind_is; few = n.few; notes = n.notes; same = refl } }

  pub line_no_row : {f : Fault} → r ≡ Err f → TookLine t columns columns x y from till k taken (Err f)
  line_no_row e = record { case = due ∙ rw e at h.case }

-- A refusal.
pub line_bad : {t columns columns' : List ℕ} {x y : Row} {from till k : ℕ} {taken : Step} {f : Fault}
    → taken ≡ bad f.kind f.place → TookLine t columns columns' x y from till k taken (Err f)
line_bad e = record { case = e }

-- What a right version line comes to.
abbrev Opened : Need → Result CodeState Fault → Type 0
Opened need (Ok s) = opened need ≡ next (state_of s [])
Opened need (Err f) = opened need ≡ bad f.kind f.place

opens : (need : Need) → Opened need (opened_to need)
opens Need.Version = refl
opens Need.Columns = refl
opens Need.Row = refl
opens Need.Nothing = refl

-- A whole line: 3; 4 for a `#` line that isn't the version line; a right version line; another line.
module _ {t columns : List ℕ} {x : Row} {from till k : ℕ} (s : CodeState) where
  pub line_byte : false ≡ printable (between t from till) → TookLine t columns columns x x from till k (step_at t from till s columns k) (Err (at WrongByte 0))
  unfolding step
  line_byte p = record { case = rw (← p) }

  module _ (p : true ≡ printable (between t from till)) where
    pub line_hash : true ≡ is_hash (between t from till) → false ≡ same (between t from till) version_line
        → TookLine t columns columns x x from till k (step_at t from till s columns k) (Err (at VersionExpected 0))
    unfolding step
    line_hash h q = record { case = rw (← p, ← h, ← q) }

    module _ (h : true ≡ is_hash (between t from till)) (q : true ≡ same (between t from till) version_line) {r : Result CodeState Fault} (e : r ≡ opened_to s.need) where
      pub line_open : {s' : CodeState} → r ≡ Ok s' → TookLine t columns [] x x from till k (step_at t from till s columns k) (Ok (Taken.Next s'))
      unfolding step
      line_open {s'} o =
          let z : opened_to s.need ≡ Ok s' = sym e ∙ o in
          let n = subst (λ (o : Result CodeState Fault). Opened s.need o) z (opens s.need) in
          record { case = rw (← p, ← h, ← q) (record { is = n; same = refl }) }

      pub line_closed : {f : Fault} → r ≡ Err f → TookLine t columns columns x x from till k (step_at t from till s columns k) (Err f)
      unfolding step
      line_closed {f} o =
          let z : opened_to s.need ≡ Err f = sym e ∙ o in
          let n = subst (λ (o : Result CodeState Fault). Opened s.need o) z (opens s.need) in
          record { case = rw (← p, ← h, ← q) n }

    pub line_other : false ≡ is_hash (between t from till) → {columns' : List ℕ} {y : Row} {r : Result Taken Fault}
        → TookLine t columns columns' x y from till k (other_at t from till s columns k) r
        → TookLine t columns columns' x y from till k (step_at t from till s columns k) r
    unfolding step
    line_other h took = record { case = rw (← p, ← h) took.case }
