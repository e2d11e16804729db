-- Laws of the reader: what is left of a text comes to the same, after each line and at the end.
use Prim.Native.Nat.{ℕ, suc, ◌≤◌, ◌<◌, ◌+◌, ◌-◌}
use mathlib.Core.Path.{◌≡◌, refl, ap, sym, ◌∙◌}
use mathlib.Core.List.{List, [], ◌∷◌, ◌++◌, append_assoc, append-nil}
use mathlib.Core.Bool.{Bool, false}
use lib.Dec.{eqb, ltb, leb}
use lib.ListN.{length, take, drop, get_or, set, length-set, length-drop, length-take, length-append, drop_of_length-le, get_or-append}
use lib.Seq.{drop-drop, get_or-append-add, get_or-set_same, get_or-set_other}
use borrow.Author.Tests.{le-ltb, lt-ltb, le-leb, leb-true, eqb-true, eqb-false}
use native.Mathlib.Omega.{arith}
use native.Mathlib.Numerals.{add-one}
use Rattle.std.specs.Prelude.{Option, Some, None, Result, Ok, Err}
use Rattle.text.specs.Lines.{cut, line, lines, up_to, first_line, printable, fields, ScannedIs}
use Rattle.text.proofs.Bools.{bools}
use Rattle.text.proofs.LineLaws.{up_to_le, first_line_lem, lines_line, lines_cut, rest_of}
use Rattle.refusal.specs.Paper.{on_line}
use Rattle.refusal.specs.declared.Fault.{Fault}
use Rattle.refusal.specs.declared.Kind.TheVariants.{TextTooLong, NoLineEnd}
use Rattle.refusal.specs.declared.Refusal.{Refusal}
use Rattle.element.specs.Observation.{Observation}
use Rattle.report.specs.Report.{bad, Outcome, accepted, refused, more, at_end, after, read_from, begin, read, text_limit, row_limit}
use Rattle.report.specs.Starts.{starts_after, starts_from, starts_in, starts_of}
use Rattle.report.specs.Index.{row_at, Noted, AcceptedIs, IndexCase, IndexIs}
use Rattle.report.specs.declared.index.Row.{Row}
use Rattle.report.specs.Inner.{between, state_of, NextIs, RowTaken, LineIn, TookLine, NextLine, NextIn, step_at, slot_of, checked_at}
use Rattle.report.specs.declared.line.Line.{Line}
use Rattle.report.specs.declared.state.Need.{Need}
use Rattle.report.specs.declared.state.State.{State as CodeState}
use Rattle.report.specs.declared.state.Taken.{Taken}

-- Observations before what is read.
abbrev pub prefix : List Observation → Outcome → Outcome
prefix [] o = o
prefix (r ∷ rs) o = more r (prefix rs o)

prefix_refused : (rows : List Observation) (x : Refusal) → prefix rows (refused x) ≡ refused x
prefix_refused [] x = refl
prefix_refused (r ∷ rs) x = rw (prefix_refused rs x)

prefix_accepted : (rows : List Observation) → prefix rows (accepted []) ≡ accepted rows
prefix_accepted [] = refl
prefix_accepted (r ∷ rs) = rw (prefix_accepted rs)

prefix_snoc : (rows : List Observation) (r : Observation) (o : Outcome) → prefix rows (more r o) ≡ prefix (rows ++ (r ∷ [])) o
prefix_snoc [] r o = refl
prefix_snoc (x ∷ rs) r o = ap (λ (y : Outcome). more x y) (prefix_snoc rs r o)

lines_cut_off : (s : List ℕ) → 0 < length s → up_to 10 s ≡ length s → lines s ≡ cut s
lines_cut_off [] h e = absurd (omega arith)
lines_cut_off (b ∷ t) h e = lines_cut b t e

read_short : (t : List ℕ) → length t ≤ text_limit → read t ≡ read_from begin 1 0 (lines t)
unfolding read
read_short t h = rw (le-ltb text_limit (length t) h)

pub read_long : {t : List ℕ} {first room : ℕ} {x : List Row} {r : Result ℕ Refusal} → text_limit < length t
    → r ≡ Err (record { kind = TextTooLong; line = 0; place = 0 }) → IndexIs t first room x r
unfolding read
read_long {t} h e = record { case = rw (e, lt-ltb text_limit (length t) h) }

-- The last element of a list that is one longer.
get_d_last : {A : Type 0} (xs : List A) (x d : A) (k : ℕ) → length xs ≡ k → get_or (xs ++ (x ∷ [])) k d ≡ x
get_d_last xs x d k e = rw (← e) (let z : length xs ≡ length xs + 0 = omega arith in rw z (get_or-append-add xs (x ∷ []) 0 d))

-- ---- the slots

-- An observation that has a row of its own is noted there, and no other one is.
slot_own : (first room k i : ℕ) → i < room → first + i ≡ k → slot_of first room k ≡ i
unfolding slot_of
slot_own first room k i h e =
    let d : k - first ≡ i = omega arith in
    rw (le-leb first k (omega arith), lt-ltb (k - first) room (omega arith), d)

slot_other : (first room k i : ℕ) → i < room → first + i < k → slot_of first room k ≡ i → ⊥
unfolding slot_of
slot_other first room k i h b =
    bools (leb first k)
    (λ p. bools (ltb (k - first) room) (λ q. rw (p, q) (λ e. omega (arith, leb-true first k p))) (λ q. rw (p, q) (λ e. omega arith)))
    (λ p. rw p (λ e. omega arith))

-- A row that was written is the row of its number, and the others stay.
row_own : (rows : List Row) (slot : ℕ) (y : Row) → slot < length rows → row_at (set rows slot y) slot ≡ y
row_own rows slot y h = get_or-set_same rows slot y _ h

row_other : (rows : List Row) (slot i : ℕ) (y : Row) → (i ≡ slot → ⊥) → row_at (set rows slot y) i ≡ row_at rows i
row_other rows slot i y n = get_or-set_other rows slot i y _ n

-- A row that is written as it was leaves every row.
row_same : (rows : List Row) (slot i : ℕ) {y : Row} → slot < length rows → y ≡ row_at rows slot → row_at (set rows slot y) i ≡ row_at rows i
row_same rows slot i {y} h e =
    bools (eqb i slot)
    (λ q. let z : i ≡ slot = eqb-true i slot q in rw z (row_own rows slot y h ∙ e))
    (λ q. row_other rows slot i y (eqb-false i slot q))

-- ---- the next line

module _ (t : List ℕ) {at size : ℕ} {right : Bool} {parts : ℕ} (h : at < length t) (c : ScannedIs (take (length t - at) (drop at t)) size right parts) where
  next_size : size ≡ up_to 10 (drop at t)
  next_size = c.size_is ∙ ap (λ (l : List ℕ). up_to 10 l) (rest_of t at (omega arith))

  pub next_fits : at + size ≤ length t
  next_fits = omega (arith, next_size, up_to_le 10 (drop at t), length-drop at t)

  pub next_cut : {number : ℕ} → at + size ≡ length t → NextIn t at number at number (Err (record { kind = NoLineEnd; line = number; place = 0 }))
  next_cut q = record { case = (h, omega (arith, next_size, length-drop at t), refl) }

  pub next_some : {number : ℕ} → (at + size ≡ length t → ⊥)
      → NextIn t at number (at + size + 1) (number + 1) (Ok (Some (record { number = number; from = at; till = at + size; printable = right; fields = parts })))
  next_some q =
      let d : at + size - at ≡ size = omega arith in
      record {
        case = record {
          from_is = refl;
          order = omega arith;
          ended = omega (arith, q, next_fits);
          scanned = rw d c;
          number_is = refl;
          at_is = refl;
          number_on = refl;
        };
      }

-- What the next line is, once the answer is known.
module _ {t : List ℕ} {at number at' number' : ℕ} {r : Result (Option Line) Refusal} (n : NextIn t at number at' number' r) where
  pub line_of : {ln : Line} {found : Option Line} → r ≡ Ok found → found ≡ Some ln → NextLine t at number ln at' number'
  line_of {ln} e s = let z : r ≡ Ok (Some ln) = e ∙ ap Ok s in rw z at n.case

  pub end_of : {found : Option Line} → r ≡ Ok found → found ≡ None → (length t ≤ at) × (at' ≡ at) × (number' ≡ number)
  end_of e s = let z : r ≡ Ok None = e ∙ ap Ok s in rw z at n.case

  pub cut_of : {z : Refusal} → r ≡ Err z → (at < length t) × (up_to 10 (drop at t) ≡ length (drop at t)) × (z ≡ record { kind = NoLineEnd; line = number; place = 0 })
  cut_of e = rw e at n.case

-- ---- the loop

-- The observations so far and where their values start; those that have a row of their own are noted there.
pub record Reading (t columns : List ℕ) (first room : ℕ) (rows : List Row) (at number k : ℕ) (s : CodeState) : Type 0 where
  pub at_most : at ≤ length t
  pub short : length t ≤ text_limit
  pub lines_few : number ≤ at + 1
  pub rows_few : k ≤ row_limit
  pub room_is : room < length rows
  pub observations : List Observation
  pub count : length observations ≡ k
  pub spots : List (List ℕ)
  pub spots_count : length spots ≡ k
  pub noted : (i : ℕ) → i < room → first + i < k → Noted t (row_at rows i) (get_or observations (first + i) []) (get_or spots (first + i) [])
  pub rest : read_from begin 1 0 (lines t) ≡ prefix observations (read_from (state_of s columns) number k (lines (drop at t)))
  pub left : starts_from begin 0 0 (lines t) ≡ spots ++ starts_from (state_of s columns) at k (lines (drop at t))

-- The state where a text begins.
pub begun : (s : CodeState) → (s.need ≡ Need.Version) × (s.radar ≡ false) → s ≡ record { need = Need.Version; radar = false }
begun s h =
    ap (λ (n : Need). record { need = n; radar = s.radar }) h.0 ∙ ap (λ (r : Bool). record { need = Need.Version; radar = r }) h.1

pub read_start : {t : List ℕ} {first room : ℕ} {rows : List Row} → length t ≤ text_limit → room < length rows
    → Reading t [] first room rows 0 1 0 (record { need = Need.Version; radar = false })
read_start h a = record {
  at_most = omega arith;
  short = h;
  lines_few = omega arith;
  rows_few = omega arith;
  room_is = a;
  observations = [];
  count = refl;
  spots = [];
  spots_count = refl;
  noted = λ i a b. absurd (omega arith);
  rest = refl;
  left = refl;
}

module _ {t columns : List ℕ} {first room : ℕ} {rows : List Row} {at number k : ℕ} {s : CodeState} (v : Reading t columns first room rows at number k s) where
  -- the end of the text
  read_end : length t ≤ at → read t ≡ prefix v.observations (at_end s.need number)
  unfolding read_from
  read_end h = read_short t v.short ∙ (v.rest ∙ rw (drop_of_length-le t h))

  spots_end : length t ≤ at → starts_in t ≡ v.spots
  unfolding starts_in starts_from
  spots_end h = v.left ∙ (rw (drop_of_length-le t h) (append-nil v.spots))

  read_done : length t ≤ at → at_end s.need number ≡ accepted [] → AcceptedIs t first room rows k
  read_done h e = record {
    observations = v.observations;
    is = read_end h ∙ (ap (λ (o : Outcome). prefix v.observations o) e ∙ prefix_accepted v.observations);
    count = v.count;
    few = v.rows_few;
    noted = λ i a b. rw (spots_end h) (v.noted i a b);
  }

  pub read_ends : length t ≤ at → {r : Result ℕ Refusal} → r ≡ checked_at s.need number k → IndexIs t first room rows r
  read_ends h {r} e = record { case = rw e (go s.need refl) }
    where
      go : (need : Need) → s.need ≡ need → IndexCase t first room rows (checked_at need number k)
      go Need.Version q = read_done h (ap (λ (n : Need). at_end n number) q)
      go Need.Columns q = read_end h ∙ (ap (λ (n : Need). prefix v.observations (at_end n number)) q ∙ prefix_refused v.observations _)
      go Need.Row q = read_end h ∙ (ap (λ (n : Need). prefix v.observations (at_end n number)) q ∙ prefix_refused v.observations _)
      go Need.Nothing q = read_done h (ap (λ (n : Need). at_end n number) q)

  -- bytes with no LF after them
  pub read_cut : at < length t → up_to 10 (drop at t) ≡ length (drop at t) → {z : Refusal} → z ≡ record { kind = NoLineEnd; line = number; place = 0 }
      → IndexIs t first room rows (Err z)
  unfolding read_from
  read_cut h q e =
      let g = lines_cut_off (drop at t) (omega (arith, length-drop at t, h)) q in
      record { case = rw e (read_short t v.short ∙ (v.rest ∙ rw g (prefix_refused v.observations _))) }

  -- a line
  module _ {ln : Line} {at' number' : ℕ} (l : NextLine t at number ln at' number') where
    till_is : ln.till ≡ at + up_to 10 (drop at t)
    till_is = omega (arith, l.order, l.scanned.size_is ∙ ap (λ (l : List ℕ). up_to 10 l) (rest_of t at v.at_most))

    line_is : between t at ln.till ≡ first_line (drop at t)
    line_is = let d : ln.till - at ≡ up_to 10 (drop at t) = omega (arith, till_is) in rw d (first_line_lem (drop at t))

    pub line_asks : LineIn t ln.from ln.till ln.fields × (ln.printable ≡ printable (between t ln.from ln.till))
    line_asks =
        let r = rest_of t at v.at_most in
        rw l.from_is (
          record {
            order = l.order;
            in_text = l.ended;
            short = omega (arith, l.ended, v.short);
            parts_are = l.scanned.parts_is ∙ ap (λ (l : List ℕ). length (fields l)) (ap (λ (l : List ℕ). first_line l) r ∙ sym line_is);
          },
          l.scanned.right_is ∙ ap (λ (l : List ℕ). printable l) (ap (λ (l : List ℕ). first_line l) r ∙ sym line_is),
        )

    split : lines (drop at t) ≡ line (between t at ln.till) (lines (drop (ln.till + 1) t))
    split =
        let g : up_to 10 (drop at t) < length (drop at t) = omega (arith, l.ended, till_is, length-drop at t) in
        let d : at + suc (up_to 10 (drop at t)) ≡ ln.till + 1 = omega (arith, till_is) in
        lines_line (drop at t) g ∙ rw (drop-drop, d, line_is)

    line_long : at + suc (length (between t at ln.till)) ≡ ln.till + 1
    line_long = omega (arith, length-take (ln.till - at) (drop at t), length-drop at t, l.order, l.ended)

    on : read_from begin 1 0 (lines t)
        ≡ prefix v.observations (after (step_at t at ln.till s columns k) number (state_of s columns) k
        (λ s' k'. read_from s' (suc number) k' (lines (drop (ln.till + 1) t))))
    unfolding read_from
    on = v.rest ∙ rw split

    on_starts : starts_from begin 0 0 (lines t)
        ≡ v.spots ++ starts_after (step_at t at ln.till s columns k) (state_of s columns) k at (between t at ln.till)
        (λ s' k'. starts_from s' (ln.till + 1) k' (lines (drop (ln.till + 1) t)))
    unfolding starts_from
    on_starts = v.left ∙ rw (split, line_long)

    module _ {columns' : List ℕ} {x y : Row} {r : Result Taken Fault} (took : TookLine t columns columns' x y ln.from ln.till k (step_at t ln.from ln.till s columns k) r) where
      took_at : TookLine t columns columns' x y at ln.till k (step_at t at ln.till s columns k) r
      took_at = rw l.from_is at took

      pub read_bad : {rows' : List Row} {f : Fault} → r ≡ Err f → {z : Refusal} → z ≡ on_line ln.number f → IndexIs t first room rows' (Err z)
      read_bad {rows'} {f} e g =
          let b : step_at t at ln.till s columns k ≡ bad f.kind f.place = rw e at took_at.case in
          record { case = rw (g, l.number_is) (read_short t v.short ∙ (on ∙ rw b (prefix_refused v.observations _))) }

      module _ {slot : ℕ} (slot_is : (slot ≡ slot_of first room k) × (slot ≤ room)) (lent : x ≡ row_at rows slot) where
        inside : slot < length rows
        inside = omega (arith, v.room_is, slot_is.1)

        room_is' : room < length (set rows slot y)
        room_is' = simp length-set v.room_is

        pub read_next : {s' : CodeState} → {a : Taken} → r ≡ Ok a → a ≡ Taken.Next s' → Reading t columns' first room (set rows slot y) at' number' k s'
        read_next {s'} o e =
            let z : r ≡ Ok (Taken.Next s') = o ∙ ap Ok e in
            let n : NextIs columns' x y (step_at t at ln.till s columns k) s' = rw z at took_at.case in
            rw (l.at_is, l.number_on) (record {
              at_most = omega (arith, l.ended);
              short = v.short;
              lines_few = omega (arith, v.lines_few, l.order);
              rows_few = v.rows_few;
              room_is = room_is';
              observations = v.observations;
              count = v.count;
              spots = v.spots;
              spots_count = v.spots_count;
              noted = λ i a b. rw (row_same rows slot i inside (n.same ∙ lent)) (v.noted i a b);
              rest = on ∙ rw (n.is, add-one number);
              left = on_starts ∙ rw n.is;
            })

        noted_row : (radar : Bool) → RowTaken t columns columns' y at ln.till k (step_at t at ln.till s columns k) radar
            → Reading t columns' first room (set rows slot y) (ln.till + 1) (number + 1) (k + 1) (record { need = Need.Nothing; radar = radar })
        noted_row radar n =
            let spot = starts_of columns (fields (between t at ln.till)) at in
            record {
              at_most = omega (arith, l.ended);
              short = v.short;
              lines_few = omega (arith, v.lines_few, l.order);
              rows_few = omega (arith, n.few);
              room_is = room_is';
              observations = v.observations ++ (n.got ∷ []);
              count = length-append v.observations (n.got ∷ []) ∙ ap (λ (z : ℕ). z + 1) v.count;
              spots = v.spots ++ (spot ∷ []);
              spots_count = length-append v.spots (spot ∷ []) ∙ ap (λ (z : ℕ). z + 1) v.spots_count;
              noted = λ i a b.
                  bools (eqb (first + i) k)
                  (λ g.
                  let p : first + i ≡ k = eqb-true (first + i) k g in
                  let w : i ≡ slot = sym (slot_is.0 ∙ slot_own first room k i a p) in
                  rw (w, row_own rows slot y inside, ← w, p, get_d_last v.observations n.got [] k v.count, get_d_last v.spots spot [] k v.spots_count) n.notes)
                  (λ g.
                  let m : first + i < k = omega (arith, eqb-false (first + i) k g) in
                  let mr : first + i < length v.observations = omega (arith, v.count) in
                  let ms : first + i < length v.spots = omega (arith, v.spots_count) in
                  let w : i ≡ slot → ⊥ = λ z. slot_other first room k i a m (sym slot_is.0 ∙ sym z) in
                  rw (get_or-append v.observations (n.got ∷ []) [] (first + i) mr, get_or-append v.spots (spot ∷ []) [] (first + i) ms, row_other rows slot i y w)
                  (v.noted i a m));
              rest = on ∙ (rw (n.is, n.kind_is, add-one number, add-one k, n.same) (prefix_snoc v.observations n.got _));
              left = on_starts ∙ rw (n.is, n.kind_is, add-one k, n.same, append_assoc);
            }

        pub read_row : {radar : Bool} {a : Taken} → r ≡ Ok a → a ≡ Taken.Noted radar
            → Reading t columns' first room (set rows slot y) at' number' (k + 1) (record { need = Need.Nothing; radar = radar })
        read_row {radar} o e =
            let z : r ≡ Ok (Taken.Noted radar) = o ∙ ap Ok e in
            rw (l.at_is, l.number_on) (noted_row radar (rw z at took_at.case))
