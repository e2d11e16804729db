-- Writing a record changes the list nowhere but in the record's 40 bytes, and not at all where it is refused.
use Prim.Native.Nat.{ℕ, ◌+◌, ◌-◌, ◌*◌, ◌≤◌, ◌<◌}
use mathlib.Core.Path.{◌≡◌, refl, ap, sym, ◌∙◌}
use mathlib.Core.Bool.{Bool, true, false, not, cond, ◌&&◌}
use mathlib.Core.List.{List, []}
use native.Mathlib.Omega.{arith}
use lib.Dec.{leb}
use lib.ListN.{length, get_or, take, drop, length-append, length-drop, get_or-append}
use lib.Seq.{length-take-le, take_at, drop_at, drop-drop, get_or-take, get_or-drop}
use borrow.Author.Tests.{leb-true}
use Rattle.text.specs.Output.{over}
use Rattle.text.proofs.Bools.{both}
use Rattle.refusal.specs.Paper.{Paper, refused_by, given, paper, request}
use Rattle.refusal.specs.declared.Kind.TheVariants.{NoObservation, NotOptical, ListTooShort}
use Rattle.element.specs.Observation.{Observation, is_radar}
use Rattle.report.specs.Report.{Outcome, accepted, refused, read}
use Rattle.report.specs.Answers.{is_observation}
use Rattle.night.specs.Record.{record_of}
use Rattle.night.specs.List.{record_size, place_of, record_at, done, has_place, list_with, written_answer, list_after}
use Rattle.night.proofs.Direct.{record_of_length}

-- The list after a writing has its length, and every byte outside the record of that number.
pub record Kept (number : ℕ) (list after : List ℕ) : Type 0 where
  pub sized : length after ≡ length list
  pub before : (k : ℕ) → k < place_of number → get_or after k 0 ≡ get_or list k 0
  pub behind : (k : ℕ) → place_of number + record_size ≤ k → get_or after k 0 ≡ get_or list k 0

module _ (n : ℕ) (bytes list : List ℕ) (first : 1 ≤ n) (long : length bytes ≡ record_size) (room : n * record_size ≤ length list) where
  -- What stands before its place, and from there on.
  front_long : length (take (place_of n) list) ≡ place_of n
  front_long = length-take-le (place_of n) list (omega arith)

  with_drop : drop (place_of n) (list_with n bytes list) ≡ over bytes (drop (place_of n) list)
  unfolding list_with
  with_drop = drop_at (take (place_of n) list) (over bytes (drop (place_of n) list)) (place_of n) front_long

  -- The record stands in its place.
  pub with_record : record_at n (list_with n bytes list) ≡ bytes
  unfolding over
  with_record = ap (λ (l : List ℕ). take record_size l) with_drop ∙ take_at bytes (drop (length bytes) (drop (place_of n) list)) record_size long

  -- What stands after it, and before it.
  with_rest : drop (place_of n + record_size) (list_with n bytes list) ≡ drop (place_of n + record_size) list
  unfolding over
  with_rest =
      sym (drop-drop record_size (place_of n) (list_with n bytes list))
      ∙ ap (λ (l : List ℕ). drop record_size l) with_drop
      ∙ drop_at bytes (drop (length bytes) (drop (place_of n) list)) record_size long
      ∙ ap (λ (k : ℕ). drop k (drop (place_of n) list)) long
      ∙ drop-drop record_size (place_of n) list

  with_behind : (k : ℕ) → place_of n + record_size ≤ k → get_or (list_with n bytes list) k 0 ≡ get_or list k 0
  with_behind k h =
      let end : ℕ = place_of n + record_size in
      let e : end + (k - end) ≡ k = omega arith in
      ap (λ (j : ℕ). get_or (list_with n bytes list) j 0) (sym e)
      ∙ sym (get_or-drop end (list_with n bytes list) (k - end) 0)
      ∙ ap (λ (l : List ℕ). get_or l (k - end) 0) with_rest
      ∙ get_or-drop end list (k - end) 0
      ∙ ap (λ (j : ℕ). get_or list j 0) e

  with_before : (k : ℕ) → k < place_of n → get_or (list_with n bytes list) k 0 ≡ get_or list k 0
  unfolding list_with
  with_before k h =
      get_or-append (take (place_of n) list) (over bytes (drop (place_of n) list)) 0 k (omega (arith, front_long))
      ∙ get_or-take (place_of n) list k 0 h

  with_length : length (list_with n bytes list) ≡ length list
  unfolding list_with over
  with_length = simp (length-append, length-drop) (omega (arith, front_long))

  -- Every other byte stays.
  with_kept : Kept n list (list_with n bytes list)
  with_kept = record { sized = with_length; before = with_before; behind = with_behind }

-- Where nothing is written all stays.
same_kept : (n : ℕ) (list : List ℕ) → Kept n list list
same_kept n list = record { sized = refl; before = λ k h. refl; behind = λ k h. refl }

-- Whatever a writing answers, every byte outside the record stays.
pub others_stay : (outcome : Outcome) (n : ℕ) (list : List ℕ) → Kept n list (list_after outcome n list)
others_stay (refused x) n list = same_kept n list
others_stay (accepted os) n list = by_test (is_observation os n && (not (is_radar (get_or os (n - 1) [])) && has_place n list)) refl
  where
    by_test : (t : Bool) → is_observation os n && (not (is_radar (get_or os (n - 1) [])) && has_place n list) ≡ t
        → Kept n list (cond t (list_with n (record_of n (get_or os (n - 1) [])) list) list)
    by_test false e = same_kept n list
    by_test true e =
        let p = both (is_observation os n) (not (is_radar (get_or os (n - 1) [])) && has_place n list) e in
        let q = both (leb 1 n) (leb n (length os)) p.0 in
        let r = both (not (is_radar (get_or os (n - 1) []))) (has_place n list) p.1 in
        with_kept n (record_of n (get_or os (n - 1) [])) list (leb-true 1 n q.0) (record_of_length n (get_or os (n - 1) []))
        (leb-true (n * record_size) (length list) r.1)

-- A writing that is refused leaves the list as it was.
pub refused_stays : (outcome : Outcome) (n : ℕ) (list : List ℕ) (answer : Paper) → written_answer outcome n list ≡ refused_by answer
    → list_after outcome n list ≡ list
refused_stays (refused x) n list answer e = refl
refused_stays (accepted os) n list answer e =
    by_tests (is_observation os n) (is_radar (get_or os (n - 1) [])) (has_place n list) (paper (request NoObservation)) (paper (request NotOptical))
    (paper (request ListTooShort)) e
  where
    by_tests : (a b c : Bool) (p q r : Paper)
        → cond a (cond b (refused_by q) (cond c (given done) (refused_by r))) (refused_by p) ≡ refused_by answer
        → cond (a && (not b && c)) (list_with n (record_of n (get_or os (n - 1) [])) list) list ≡ list
    by_tests true true c p q r e = refl
    by_tests true false true p q r e = let z : ◌≡◌ {A = ℕ} 0 1 = cc in absurd (omega arith)
    by_tests true false false p q r e = refl
    by_tests false b c p q r e = refl

-- Of a radar observation nothing is written, whatever the list's length: that is 23, and the list stays.
module _ (report : List ℕ) (os : List Observation) (n : ℕ) (list : List ℕ) (reads : read report ≡ accepted os) (is_one : is_observation os n ≡ true)
    (is-radar : is_radar (get_or os (n - 1) []) ≡ true) where
  pub radar_refused : written_answer (read report) n list ≡ refused_by (paper (request NotOptical))
  radar_refused = rw (reads, is_one, is-radar)

  pub radar_stays : list_after (read report) n list ≡ list
  radar_stays = refused_stays (read report) n list (paper (request NotOptical)) radar_refused
