-- Laws of the entries' answers: each follows from what the report reads as and from what is noted of it.
use Prim.Native.Nat.{ℕ, ◌≤◌, ◌<◌, ◌+◌, ◌-◌, ◌/◌, ◌%◌, ◌^◌}
use mathlib.Core.Path.{◌≡◌, refl, ap, sym, ◌∙◌}
use mathlib.Core.List.{List, [], ◌∷◌}
use mathlib.Core.Bool.{Bool, true, false, cond, ◌&&◌, ◌||◌}
use lib.Dec.{eqb, ltb, leb}
use lib.ListN.{length, take, drop, get_or}
use borrow.Author.Tests.{le-leb, lt-leb, ltb-true, ltb-false}
use native.Mathlib.Omega.{arith}
use Rattle.std.specs.Prelude.{Option, Some, None, Result, Ok, Err}
use Rattle.std.specs.Result.{result_unwrap_or}
use Rattle.text.specs.declared.lines.Span.{Span}
use Rattle.text.proofs.Bools.{bools, neither, never}
use Rattle.refusal.specs.Paper.{Paper, paper, request, Answer, refused_by, absent, given}
use Rattle.refusal.specs.declared.Kind.TheVariants.{NoObservation, NoElement}
use Rattle.refusal.specs.declared.Refusal.{Refusal}
use Rattle.refusal.specs.declared.Kind.{Kind}
use Rattle.value.specs.Paper.{Exact, no_value, exact as exact_of, paper_value}
use Rattle.value.specs.declared.Value.{Value}
use Rattle.value.specs.declared.Value.TheVariants.{NoValue}
use Rattle.element.specs.Table.{elements}
use Rattle.element.specs.Form.{value_of, has_value}
use Rattle.element.specs.Observation.{is_present, bit}
use Rattle.element.proofs.Sets.{has_set}
use Rattle.report.specs.Report.{Outcome, accepted, refused, read}
use Rattle.report.specs.Starts.{starts_in}
use Rattle.report.specs.Answers.{checked_paper, checked_answer, is_observation, is_element, value_at, start_at, shown_of, showing_paper, showing_answer, exact, valued_answer}
use Rattle.report.specs.Index.{row_at, Noted, AcceptedIs, IndexCase, IndexIs}
use Rattle.report.specs.Inner.{shown_in, LocatedIs}
use Rattle.report.specs.declared.index.Row.{Row}

-- The answer to a check is what the report reads as.
pub checked_is : {t : List ℕ} {first room : ℕ} {x : List Row} {r : Result ℕ Refusal} → IndexIs t first room x r → checked_paper r ≡ checked_answer (read t)
checked_is {t} {first} {room} {x} {r} i = go r i.case
  where
    go : (r : Result ℕ Refusal) → IndexCase t first room x r → checked_paper r ≡ checked_answer (read t)
    go (Ok k) a = rw (a.is, a.count)
    go (Err y) e = rw e

-- Where there is no room for a row, nothing of the lists matters.
pub unnoted : {t : List ℕ} {first : ℕ} {x : List Row} {r : Result ℕ Refusal} → IndexIs t first 0 x r → {first' room' : ℕ} {y : List Row} → room' ≡ 0 → IndexIs t first' room' y r
unnoted {t} {first} {x} {r} i {first'} {room'} {y} e = record { case = go r i.case }
  where
    go : (r : Result ℕ Refusal) → IndexCase t first 0 x r → IndexCase t first' room' y r
    go (Ok k) a = record { observations = a.observations; is = a.is; count = a.count; few = a.few; noted = λ j h. absurd (omega arith) }
    go (Err z) q = q

pub accepted_of : {t : List ℕ} {first room : ℕ} {x : List Row} {r : Result ℕ Refusal} → IndexIs t first room x r → {k : ℕ} → r ≡ Ok k → AcceptedIs t first room x k
accepted_of i e = rw e at i.case

pub refused_of : {t : List ℕ} {first room : ℕ} {x : List Row} {r : Result ℕ Refusal} → IndexIs t first room x r → {z : Refusal} → r ≡ Err z → read t ≡ refused z
refused_of i e = rw e at i.case

-- ---- where a value lies

-- What gives a place is no refusal, and not "absent"; neither is "absent" a refusal.
at_refused : {z : Paper} {place : ℕ × ℕ} → ◌≡◌ {A = Answer (ℕ × ℕ)} (refused_by z) (given place) → ⊥
at_refused q = let z : ◌≡◌ {A = ℕ} 0 1 = cc in omega arith

at_absent : {place : ℕ × ℕ} → ◌≡◌ {A = Answer (ℕ × ℕ)} absent (given place) → ⊥
at_absent q = let z : ◌≡◌ {A = ℕ} 0 1 = cc in omega arith

absent_refused : {z : Paper} → ◌≡◌ {A = Answer (ℕ × ℕ)} (refused_by z) absent → ⊥
absent_refused q = let z : ◌≡◌ {A = ℕ} 0 1 = cc in omega arith

pub located_refused : {t : List ℕ} {n e : ℕ} {z : Refusal} → read t ≡ refused z → LocatedIs t n e (Err z)
located_refused q = record { is = rw q; lies = λ span g. absurd (at_refused (ap showing_paper g)) }

-- A number outside 1 to k, and one inside.
outside : (n k : ℕ) → (ltb n 1 || ltb k n) ≡ true → (leb 1 n && leb n k) ≡ false
outside n k h =
    bools (ltb n 1)
    (λ p. rw (lt-leb 1 n (ltb-true n 1 p)))
    (λ p. bools (leb 1 n) (λ q. rw (q, lt-leb n k (ltb-true k n (rw p at h)))) (λ q. rw q))

inside : (n k : ℕ) → (ltb n 1 || ltb k n) ≡ false → (1 ≤ n) × (n ≤ k)
inside n k h = let p = neither (ltb n 1) (ltb k n) h in (ltb-false n 1 p.0, ltb-false k n p.1)

inside_is : (n k : ℕ) → (1 ≤ n) × (n ≤ k) → (leb 1 n && leb n k) ≡ true
inside_is n k p = rw (le-leb 1 n p.0, le-leb n k p.1)

pub element_low : (e : ℕ) → (ltb e 1 || ltb elements e) ≡ false → e - 1 < elements
element_low e h = omega (arith, inside e elements h)

module _ {t : List ℕ} (n e : ℕ) {first : ℕ} {x : List Row} {k : ℕ} (a : AcceptedIs t first 1 x k) where
  pub located_none : (ltb n 1 || ltb k n) ≡ true → {r : Result (Option Span) Refusal} → r ≡ Err (request NoObservation) → LocatedIs t n e r
  located_none h q = record { is = rw (a.is, a.count, outside n k h) (ap showing_paper q); lies = λ span g. absurd (at_refused (ap showing_paper (sym q ∙ g))) }

  module _ (hn : (ltb n 1 || ltb k n) ≡ false) where
    pub located_no_element : (ltb e 1 || ltb elements e) ≡ true → {r : Result (Option Span) Refusal} → r ≡ Err (request NoElement) → LocatedIs t n e r
    located_no_element h q = record {
      is = rw (a.is, a.count, inside_is n k (inside n k hn), outside e elements h) (ap showing_paper q);
      lies = λ span g. absurd (at_refused (ap showing_paper (sym q ∙ g)));
    }

    module _ (he : (ltb e 1 || ltb elements e) ≡ false) (f : first ≡ n - 1) where
      note : Noted t (row_at x 0) (get_or a.observations (n - 1) []) (get_or (starts_in t) (n - 1) [])
      note =
          let z : first + 0 ≡ n - 1 = omega arith in
          rw z at (a.noted 0 (omega arith) (omega (arith, inside n k hn)))

      bit_is : eqb ((row_at x 0).present / 2 ^ (e - 1) % 2) 1 ≡ is_present (value_at a.observations n e)
      bit_is = rw (note.set_is, has_set (get_or a.observations (n - 1) []) (e - 1)) (test (is_present (value_at a.observations n e)))
        where
          test : (b : Bool) → eqb (bit b) 1 ≡ b
          test true = refl
          test false = refl

      pub located_noted : {r : Result (Option Span) Refusal} → r ≡ Ok (shown_in (row_at x 0) (e - 1)) → LocatedIs t n e r
      unfolding shown_in
      located_noted {r} q = bools (is_present (value_at a.observations n e)) here gone
        where
          known : showing_answer (read t) (starts_in t) n e
              ≡ cond (is_present (value_at a.observations n e)) (given (start_at (starts_in t) n e, length (value_at a.observations n e))) absent
          known = rw (a.is, a.count, inside_is n k (inside n k hn), inside_is e elements (inside e elements he))

          shown_known : shown_of (read t) n e ≡ value_at a.observations n e
          shown_known = rw (a.is, a.count, inside_is n k (inside n k hn), inside_is e elements (inside e elements he))

          here : is_present (value_at a.observations n e) ≡ true → LocatedIs t n e r
          here p =
              let s = note.shows (e - 1) (element_low e he) p in
              let there : Span = record { start = start_at (starts_in t) n e; length = length (value_at a.observations n e) } in
              let g : r ≡ Ok (Some there) = q ∙ rw (bit_is, p, s.start_is, s.length_is) in
              record {
                is = rw (known, p) (ap showing_paper g);
                lies = λ span y.
                    let w : ◌≡◌ {A = Result (Option Span) Refusal} (Ok (Some there)) (Ok (Some span)) = sym g ∙ y in
                    let z : there ≡ span = cc in
                    rw (← z, shown_known) (s.inside, s.holds);
              }

          gone : is_present (value_at a.observations n e) ≡ false → LocatedIs t n e r
          gone p =
              let g : r ≡ Ok None = q ∙ rw (bit_is, p) in
              record { is = rw (known, p) (ap showing_paper g); lies = λ span y. absurd (at_absent (ap showing_paper (sym g ∙ y))) }

-- ---- what is shown

empty_of : (v : List ℕ) → is_present v ≡ false → v ≡ []
empty_of [] h = refl
empty_of (b ∷ v) h = never (sym h)

-- By the ways in which nothing can be shown.
shown_empty : (o : Outcome) (p : List (List ℕ)) (n e : ℕ) → ((s l : ℕ) → showing_answer o p n e ≡ given (s, l) → ⊥) → [] ≡ shown_of o n e
shown_empty (refused z) p n e h = refl
shown_empty (accepted os) p n e h =
    bools (is_observation os n)
    (λ a. bools (is_element e)
    (λ b. bools (is_present (value_at os n e))
    (λ c. absurd (h (start_at p n e) (length (value_at os n e)) (rw (a, b, c))))
    (λ c. rw (a, b) (sym (empty_of (value_at os n e) c))))
    (λ b. rw (a, b)))
    (λ a. rw a)

-- What an element is worth, by what is shown of it.
module _ (o : Outcome) (p : List (List ℕ)) (n e : ℕ) where
  present_valued : (start size : ℕ) → showing_answer o p n e ≡ given (start, size) → has_value (e - 1) ≡ true
      → given (exact (paper_value (value_of (e - 1) (shown_of o n e)))) ≡ valued_answer o n e
  present_valued start size h v = go o h
    where
      go : (o : Outcome) → showing_answer o p n e ≡ given (start, size) → given (exact (paper_value (value_of (e - 1) (shown_of o n e)))) ≡ valued_answer o n e
      go (refused z) h = absurd (at_refused h)
      go (accepted os) h =
          bools (is_observation os n)
          (λ a. bools (is_element e)
          (λ b. bools (is_present (value_at os n e)) (λ c. rw (a, b, c, v)) (λ c. absurd (at_absent (rw (a, b, c) at h))))
          (λ b. absurd (at_refused (rw (a, b) at h))))
          (λ a. absurd (at_refused (rw a at h)))

  absent_valued : showing_answer o p n e ≡ absent → has_value (e - 1) ≡ true → absent ≡ valued_answer o n e
  absent_valued h v = go o h
    where
      go : (o : Outcome) → showing_answer o p n e ≡ absent → absent ≡ valued_answer o n e
      go (refused z) h = absurd (absent_refused h)
      go (accepted os) h =
          bools (is_observation os n)
          (λ a. bools (is_element e)
          (λ b. bools (is_present (value_at os n e)) (λ c. absurd (at_absent (sym (rw (a, b, c) at h)))) (λ c. rw (a, b, c, v)))
          (λ b. absurd (absent_refused (rw (a, b) at h))))
          (λ a. absurd (absent_refused (rw a at h)))

  no_valued : ((z : Paper) → showing_answer o p n e ≡ refused_by z → ⊥) → has_value (e - 1) ≡ false → given no_value ≡ valued_answer o n e
  no_valued h v = go o h
    where
      go : (o : Outcome) → ((z : Paper) → showing_answer o p n e ≡ refused_by z → ⊥) → given no_value ≡ valued_answer o n e
      go (refused z) h = absurd (h (paper z) refl)
      go (accepted os) h =
          bools (is_observation os n)
          (λ a. bools (is_element e) (λ b. rw (a, b, v)) (λ b. absurd (h (paper (request NoElement)) (rw (a, b)))))
          (λ a. absurd (h (paper (request NoObservation)) (rw a)))

-- Two refusals that are one answer are the same.
same_refusal : {y z : Paper} → ◌≡◌ {A = Answer (ℕ × ℕ)} (refused_by y) (refused_by z) → z ≡ y
same_refusal q = cc

refused_valued : (o : Outcome) (p : List (List ℕ)) (n e : ℕ) (z : Paper) → showing_answer o p n e ≡ refused_by z → refused_by z ≡ valued_answer o n e
refused_valued (refused y) p n e z h = ap refused_by (same_refusal h)
refused_valued (accepted os) p n e z h =
    bools (is_observation os n)
    (λ a. bools (is_element e)
    (λ b. bools (is_present (value_at os n e)) (λ c. absurd (at_refused (sym (rw (a, b, c) at h)))) (λ c. absurd (absent_refused (sym (rw (a, b, c) at h)))))
    (λ b. rw (a, b) (ap refused_by (same_refusal (rw (a, b) at h)))))
    (λ a. rw a (ap refused_by (same_refusal (rw a at h))))

module _ {t : List ℕ} {n e : ℕ} {r : Result (Option Span) Refusal} (i : LocatedIs t n e r) where
  -- What is shown, by the answer.
  answered : {s : Result (Option Span) Refusal} → r ≡ s → showing_answer (read t) (starts_in t) n e ≡ showing_paper s
  answered q = sym i.is ∙ ap showing_paper q

  pub shown_at : {found : Option Span} → r ≡ Ok found → {span : Span} → found ≡ Some span
      → (span.start + span.length ≤ length t) × (take (span.start + span.length - span.start) (drop span.start t) ≡ shown_of (read t) n e)
  shown_at q {span} s =
      let c : span.start + span.length - span.start ≡ span.length = omega arith in
      let l = i.lies span (q ∙ ap Ok s) in
      (l.0, rw c l.1)

  pub shown_absent : {found : Option Span} → r ≡ Ok found → found ≡ None → [] ≡ shown_of (read t) n e
  shown_absent q h = shown_empty (read t) (starts_in t) n e (λ s l g. at_absent (sym (answered (q ∙ ap Ok h)) ∙ g))

  pub shown_refused : {z : Refusal} → r ≡ Err z → [] ≡ shown_of (read t) n e
  shown_refused q = shown_empty (read t) (starts_in t) n e (λ s l g. at_refused (sym (answered q) ∙ g))

  -- ---- what it is worth

  pub value_at_lem : {found : Option Span} → r ≡ Ok found → {span : Span} → found ≡ Some span → has_value (e - 1) ≡ true → {a : Exact}
      → a ≡ exact (paper_value (value_of (e - 1) (take (span.start + span.length - span.start) (drop span.start t)))) → given a ≡ valued_answer (read t) n e
  value_at_lem q {span} s h {a} w =
      ap given w ∙ (ap (λ (v : List ℕ). given (exact (paper_value (value_of (e - 1) v)))) (shown_at q s).1
      ∙ present_valued (read t) (starts_in t) n e span.start span.length (answered (q ∙ ap Ok s)) h)

  pub value_absent : {found : Option Span} → r ≡ Ok found → found ≡ None → has_value (e - 1) ≡ true → absent ≡ valued_answer (read t) n e
  value_absent q s h = absent_valued (read t) (starts_in t) n e (answered (q ∙ ap Ok s)) h

  -- An element without a value.
  pub value_none : {found : Option Span} → r ≡ Ok found → has_value (e - 1) ≡ false → given no_value ≡ valued_answer (read t) n e
  value_none {found} q h = no_valued (read t) (starts_in t) n e (λ z w. sound found (sym (answered q) ∙ w)) h
    where
      sound : (found : Option Span) {z : Paper} → showing_paper (Ok found) ≡ refused_by z → ⊥
      sound (Some span) w = at_refused (sym w)
      sound None w = absent_refused (sym w)

  pub value_refused : {z : Refusal} → r ≡ Err z → refused_by (paper z) ≡ valued_answer (read t) n e
  value_refused {z} q = refused_valued (read t) (starts_in t) n e (paper z) (answered q)

-- A value as the paper writes it; a fault has none.
pub worth : (found : Result Value Kind) → exact_of (result_unwrap_or found NoValue) ≡ exact (paper_value found)
worth (Ok v) = refl
worth (Err k) = refl
