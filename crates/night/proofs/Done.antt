-- What it tells that a writing is done, and that an accepted optical observation's record could have been written.
use Prim.Native.Nat.{ℕ, ◌-◌, ◌*◌, ◌≤◌}
use mathlib.Core.Path.{◌≡◌, refl, ap, ◌∙◌}
use mathlib.Core.Bool.{Bool, true, false, cond}
use mathlib.Core.List.{List, []}
use native.Mathlib.Omega.{arith}
use lib.Dec.{leb}
use lib.ListN.{length, get_or, replicate, length-replicate}
use borrow.Author.Tests.{le-leb, leb-true}
use Rattle.text.proofs.Bools.{both}
use Rattle.refusal.specs.Paper.{Paper, refused_by, given, paper, request}
use Rattle.refusal.specs.declared.Kind.TheVariants.{NoObservation, NotOptical, ListTooShort}
use Rattle.element.specs.Observation.{Observation, is_radar}
use Rattle.report.specs.Report.{Outcome, accepted, refused, read}
use Rattle.report.specs.Answers.{is_observation}
use Rattle.night.specs.Record.{record_of}
use Rattle.night.specs.List.{record_size, record_at, done, has_place, written_answer, list_after, Writable}
use Rattle.night.proofs.Direct.{record_of_length}
use Rattle.night.proofs.Kept.{with_record}

-- A writing is done: there is an observation of that number, it is not radar, the list has its place, and its record stands there.
pub record IsDone (outcome : Outcome) (n : ℕ) (list : List ℕ) : Type 0 where
  pub observations : List Observation
  pub reads : outcome ≡ accepted observations
  pub first : 1 ≤ n
  pub last : n ≤ length observations
  pub optical : is_radar (get_or observations (n - 1) []) ≡ false
  pub room : n * record_size ≤ length list
  pub stands : record_at n (list_after outcome n list) ≡ record_of n (get_or observations (n - 1) [])

module _ (os : List Observation) (n : ℕ) (list : List ℕ) (first : 1 ≤ n) (last : n ≤ length os) (optical : is_radar (get_or os (n - 1) []) ≡ false)
    (room : n * record_size ≤ length list) where
  answer_done : written_answer (accepted os) n list ≡ given done
  answer_done = rw (le-leb 1 n first, le-leb n (length os) last, optical, le-leb (n * record_size) (length list) room)

  record_stands : record_at n (list_after (accepted os) n list) ≡ record_of n (get_or os (n - 1) [])
  record_stands =
      rw (le-leb 1 n first, le-leb n (length os) last, optical, le-leb (n * record_size) (length list) room)
      (with_record n (record_of n (get_or os (n - 1) [])) list first (record_of_length n (get_or os (n - 1) [])) room)

-- A refusal is not done.
refused≢done : {p : Paper} → refused_by p ≡ given done → ⊥
refused≢done e = let z : ◌≡◌ {A = ℕ} 0 1 = cc in omega arith

pub is_done_of : (outcome : Outcome) (n : ℕ) (list : List ℕ) → written_answer outcome n list ≡ given done → IsDone outcome n list
is_done_of (refused x) n list e = absurd (refused≢done e)
is_done_of (accepted os) n list e =
    let t = tests (is_observation os n) (is_radar (get_or os (n - 1) [])) (has_place n list) (paper (request NoObservation))
    (paper (request NotOptical)) (paper (request ListTooShort)) e in
    let q = both (leb 1 n) (leb n (length os)) t.0 in
    let first = leb-true 1 n q.0 in
    let last = leb-true n (length os) q.1 in
    let room = leb-true (n * record_size) (length list) t.2 in
    record {
      observations = os;
      reads = refl;
      first = first;
      last = last;
      optical = t.1;
      room = room;
      stands = record_stands os n list first last t.1 room;
    }
  where
    tests : (a b c : Bool) (p q r : Paper) → cond a (cond b (refused_by q) (cond c (given done) (refused_by r))) (refused_by p) ≡ given done
        → (a ≡ true) × (b ≡ false) × (c ≡ true)
    tests true true c p q r e = absurd (refused≢done e)
    tests true false true p q r e = (refl, refl, refl)
    tests true false false p q r e = absurd (refused≢done e)
    tests false b c p q r e = absurd (refused≢done e)

-- The record of an accepted optical observation could have been written: into a list that ends with its place.
pub accepted_writable : (report : List ℕ) (os : List Observation) (n : ℕ) → read report ≡ accepted os → 1 ≤ n → n ≤ length os
    → is_radar (get_or os (n - 1) []) ≡ false → Writable n (record_of n (get_or os (n - 1) []))
accepted_writable report os n e first last optical =
    let list : List ℕ = replicate (n * record_size) 0 in
    let room : n * record_size ≤ length list = omega (arith, length-replicate {A = ℕ} (n * record_size) 0) in
    record {
      report = report;
      list = list;
      is_done = ap (λ (o : Outcome). written_answer o n list) e ∙ answer_done os n list first last optical room;
      leaves = ap (λ (o : Outcome). record_at n (list_after o n list)) e ∙ record_stands os n list first last optical room;
    }
