-- A record is right exactly when some accepted observation at its place could have written it.
use Prim.Native.Nat.{ℕ, ◌-◌}
use mathlib.Core.Path.{◌≡◌, refl, sym, ◌∙◌}
use mathlib.Core.Bool.{true, ◌&&◌}
use mathlib.Core.List.{List, []}
use lib.Dec.{eqb}
use lib.ListN.{get_or}
use borrow.Author.Tests.{eqb-true, eq-eqb}
use Rattle.text.specs.Part.{same}
use Rattle.text.proofs.Bools.{both}
use Rattle.text.proofs.Parts.{same_is, same_refl}
use Rattle.element.specs.Observation.{Observation}
use Rattle.report.specs.Report.{read}
use Rattle.night.specs.Record.{Fields, fields_in, record_bytes, record_of, fields_of, is_within, is_record}
use Rattle.night.specs.List.{Writable}
use Rattle.night.proofs.Within.{Within, within_of, is_within_lem, fields_back}
use Rattle.night.proofs.Sound.{accepted_within}
use Rattle.night.proofs.Done.{is_done_of}
use Rattle.night.proofs.Witness.{within_writable}

-- What the test of a record tells.
pub record RightRecord (n : ℕ) (bytes : List ℕ) : Type 0 where
  pub number_is : (fields_of bytes).number ≡ n
  pub within : Within (fields_of bytes)
  pub is : record_bytes (fields_of bytes) ≡ bytes

pub right_record : (n : ℕ) (bytes : List ℕ) → is_record n bytes ≡ true → RightRecord n bytes
unfolding is_record
right_record n bytes h =
    let f : Fields = fields_of bytes in
    let a = both (eqb f.number n && is_within f) (same bytes (record_bytes f)) h in
    let b = both (eqb f.number n) (is_within f) a.0 in
    record { number_is = eqb-true f.number n b.0; within = within_of f b.1; is = sym (same_is bytes (record_bytes f) a.1) }

-- The record of fields within their ranges is right at their number.
within_record : (f : Fields) → Within f → is_record f.number (record_bytes f) ≡ true
unfolding is_record
within_record f w = rw (fields_back f w, eq-eqb f.number f.number refl, is_within_lem f w) (same_refl (record_bytes f))

-- A right record could have been written.
pub record_writable : (n : ℕ) (bytes : List ℕ) → is_record n bytes ≡ true → Writable n bytes
record_writable n bytes h =
    let r = right_record n bytes h in
    moved (fields_of bytes).number r.number_is (record_bytes (fields_of bytes)) r.is (within_writable (fields_of bytes) r.within)
  where
    moved : (m : ℕ) → m ≡ n → (text : List ℕ) → text ≡ bytes → Writable m text → Writable n bytes
    moved m p text q x = rw (← p, ← q) x

-- What could have been written is a right record.
pub writable_record : (n : ℕ) (bytes : List ℕ) → Writable n bytes → is_record n bytes ≡ true
unfolding record_of fields_in
writable_record n bytes w =
    let d = is_done_of (read w.report) n w.list w.is_done in
    let o : Observation = get_or d.observations (n - 1) [] in
    rw (sym d.stands ∙ w.leaves) at (within_record (fields_in n o) (accepted_within w.report d.observations n d.reads d.first d.last d.optical))

-- A record is right exactly when an accepted observation at that place could have written it.
pub record_exact : (n : ℕ) (bytes : List ℕ) → (is_record n bytes ≡ true → Writable n bytes) × (Writable n bytes → is_record n bytes ≡ true)
record_exact n bytes = (record_writable n bytes, writable_record n bytes)
