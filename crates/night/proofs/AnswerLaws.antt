-- Laws of what writing answers and leaves.
use Prim.Native.Nat.{ℕ, ◌+◌, ◌-◌, ◌*◌, ◌≤◌, ◌<◌}
use mathlib.Core.Path.{◌≡◌, refl, sym, ap, ◌∙◌}
use mathlib.Core.Bool.{Bool, false, not, ◌&&◌}
use mathlib.Core.List.{List, []}
use native.Mathlib.Omega.{arith}
use lib.Dec.{leb}
use lib.ListN.{length, get_or}
use borrow.Author.Tests.{leb-true, le-leb}
use Rattle.text.proofs.Bools.{bools, both}
use Rattle.refusal.specs.Paper.{Paper, paper, request, Answer, refused_by, given}
use Rattle.refusal.specs.declared.Kind.TheVariants.{NoObservation, NotOptical, ListTooShort}
use Rattle.element.specs.Observation.{Observation, is_radar, is_radar_set}
use Rattle.element.specs.Table.{elements}
use Rattle.element.proofs.Sets.{set_radar}
use Rattle.report.specs.Report.{read}
use Rattle.report.specs.Index.{row_at, AcceptedIs, noted_value}
use Rattle.report.specs.declared.index.Row.{Row}
use Rattle.report.proofs.IndexLaws.{noted_value_lem}
use Rattle.night.specs.Record.{fields_in, record_bytes, record_of}
use Rattle.night.specs.List.{record_size, Done, done, list_with, written_answer}
use Rattle.night.specs.Inner.{Writes, noted_fields, place_answer}

-- ---- by the count of observations, the kind and the room

refused≢given : (p : Paper) → ◌≡◌ {A = Answer Done} (refused_by p) (given done) → ⊥
refused≢given p e = absurd (let z : ◌≡◌ {A = ℕ} 0 1 = cc in omega arith)

-- A refusal keeps the list.
pub place_refused : {p : Paper} (count : ℕ) (radar : Bool) (n room : ℕ) → refused_by p ≡ place_answer count radar n room
    → ((leb 1 n && leb n count) && (not radar && leb (n * record_size) room)) ≡ false
place_refused {p} count radar n room e =
    bools (leb 1 n && leb n count)
    (λ a. bools radar
    (λ r. rw (a, r) refl)
    (λ r. bools (leb (n * record_size) room) (λ b. absurd (refused≢given p (e ∙ rw (a, r, b) refl))) (λ b. rw (a, r, b) refl)))
    (λ a. rw a refl)

-- Done means that there is such an observation, that it is not radar, and that there is room for it.
pub place_given : (count : ℕ) (radar : Bool) (n room : ℕ) → given done ≡ place_answer count radar n room
    → (1 ≤ n) × (n ≤ count) × (radar ≡ false) × (n * record_size ≤ room)
place_given count radar n room e =
    bools (leb 1 n && leb n count)
    (λ a. let k = both (leb 1 n) (leb n count) a in
    bools radar
    (λ r. absurd (refused≢given (paper (request NotOptical)) (sym (e ∙ rw (a, r) refl))))
    (λ r. bools (leb (n * record_size) room)
    (λ b. (leb-true 1 n k.0, leb-true n count k.1, r, leb-true (n * record_size) room b))
    (λ b. absurd (refused≢given (paper (request ListTooShort)) (sym (e ∙ rw (a, r, b) refl))))))
    (λ a. absurd (refused≢given (paper (request NoObservation)) (sym (e ∙ rw a refl))))

-- ---- of a report that an index notes

-- The kind is that of the set in the index's first row.
module _ {report : List ℕ} (n : ℕ) {index : List Row} {count : ℕ} (x : AcceptedIs report (n - 1) 1 index count) (list : List ℕ) (radar : Bool)
    (kind : radar ≡ is_radar_set (row_at index 0).present) where
  -- The observation of that number, where there is one.
  abbrev observed : Observation
  observed = get_or x.observations (n - 1) []

  -- Where there is one, that is its kind.
  kind_is : 1 ≤ n → n ≤ count → radar ≡ is_radar observed
  kind_is a b =
      let z : n - 1 + 0 ≡ n - 1 = omega arith in
      kind ∙ ap is_radar_set (rw z at (x.noted 0 (omega arith) (omega arith)).set_is) ∙ set_radar observed

  -- Where there is none, the kind is not asked: so the answer is by the observation's own kind.
  place_is : place_answer count radar n (length list) ≡ place_answer count (is_radar observed) n (length list)
  place_is =
      bools (leb 1 n && leb n count)
      (λ a. let k = both (leb 1 n) (leb n count) a in rw (kind_is (leb-true 1 n k.0) (leb-true n count k.1)) refl)
      (λ a. rw a refl)

  answer_is : place_answer count radar n (length list) ≡ written_answer (read report) n list
  answer_is = place_is ∙ rw (x.is, ← x.count) refl

  -- A request that is refused.
  pub write_none : {p : Paper} → refused_by p ≡ place_answer count radar n (length list) → Writes report n list (refused_by p) list
  write_none e = (e ∙ answer_is, rw x.is (rw (x.count, place_refused count (is_radar observed) n (length list) (e ∙ place_is)) refl))

  module _ (held : 0 < length index) where
    -- The first row notes the observation's fields.
    noted : 1 ≤ n → n ≤ count → (e : ℕ) → e < elements → noted_value report index 0 e ≡ get_or observed e []
    noted a b e h =
        let z : n - 1 + 0 ≡ n - 1 = omega arith in
        rw z at (noted_value_lem index 0 (x.noted 0 (omega arith) (omega arith)) held e h)

    fields_are : 1 ≤ n → n ≤ count → record_bytes (noted_fields report index 0 n) ≡ record_of n observed
    unfolding record_of fields_in
    fields_are a b = rw (noted a b 7 (omega arith), noted a b 14 (omega arith), noted a b 16 (omega arith), noted a b 17 (omega arith)) refl

    -- The record is written.
    pub write_done : given done ≡ place_answer count radar n (length list)
        → Writes report n list (given done) (list_with n (record_bytes (noted_fields report index 0 n)) list)
    write_done e =
        let k = place_given count (is_radar observed) n (length list) (e ∙ place_is) in (
          e ∙ answer_is,
          ap (λ (bytes : List ℕ). list_with n bytes list) (fields_are k.0 k.1)
              ∙ rw x.is (rw (x.count, le-leb 1 n k.0, le-leb n count k.1, k.2, le-leb (n * record_size) (length list) k.3) refl),
        )
