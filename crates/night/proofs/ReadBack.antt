-- What was written is read back: the fields of a record that a writing left are those of its observation.
use Prim.Native.Nat.{ℕ, zero, suc, ◌-◌, ◌<◌}
use mathlib.Core.Path.{◌≡◌, ap, sym, ◌∙◌}
use mathlib.Core.Bool.{true, not}
use mathlib.Core.List.{List, [], ◌∷◌}
use native.Mathlib.Omega.{arith}
use lib.Dec.{eqb, leb}
use lib.ListN.{get_or}
use borrow.Author.Tests.{leb-true}
use Rattle.text.specs.Lines.{is_printable}
use Rattle.text.specs.Output.{low_bytes, spelt}
use Rattle.text.proofs.Bools.{both}
use Rattle.refusal.specs.Paper.{given}
use Rattle.element.specs.Observation.{Observation}
use Rattle.report.specs.Report.{accepted, read}
use Rattle.layout.proofs.FieldLaws.{is_value_byte, is_clean}
use Rattle.night.specs.Record.{Fields, padded, unpadded, fields_in, record_of, fields_of}
use Rattle.night.specs.List.{record_at, done, written_answer, list_after, first_bad, told, record_answer}
use Rattle.night.proofs.RecordLaws.{Station, station_back, station_clean}
use Rattle.night.proofs.Direct.{low_spelt}
use Rattle.night.proofs.Kept.{others_stay}
use Rattle.night.proofs.Done.{IsDone, is_done_of}
use Rattle.night.proofs.Within.{fields_back}
use Rattle.night.proofs.Sound.{accepted_within}
use Rattle.night.proofs.ListExact.{told_at}

module _ (report list : List ℕ) (os : List Observation) (n : ℕ) (reads : read report ≡ accepted os)
    (is_done : written_answer (read report) n list ≡ given done) where
  abbrev after : List ℕ
  after = list_after (read report) n list

  written : IsDone (read report) n list
  written = is_done_of (read report) n list is_done

  -- The fields of the record that was written are the observation's.
  pub read_back : fields_of (record_at n after) ≡ fields_in n (get_or os (n - 1) [])
  unfolding record_of
  read_back =
      let d = written in
      let same_rows : d.observations ≡ os = cc in
      ap fields_of d.stands
      ∙ fields_back (fields_in n (get_or d.observations (n - 1) [])) (accepted_within report d.observations n d.reads d.first d.last d.optical)
      ∙ ap (λ (rows : List Observation). fields_in n (get_or rows (n - 1) [])) same_rows

  -- They are what the reader gives of a list without a bad record.
  pub told_back : first_bad after ≡ 0 → record_answer after n ≡ given (told (fields_in n (get_or os (n - 1) [])))
  told_back none =
      let d = written in
      told_at after n none d.first (omega (arith, d.room, (others_stay (read report) n list).sized)) ∙ ap (λ (f : Fields). given (told f)) read_back

-- A station is told one way only.

-- The bytes of a clean text are bytes, and so is a blank after it.
clean_byte : (s : List ℕ) (k : ℕ) → is_clean s ≡ true → get_or s k 32 < 256
unfolding is_clean
clean_byte [] k h = omega arith
clean_byte (b ∷ s) zero h =
    let p = (both (is_value_byte b) (is_clean s) h).0 in
    let q = (both (is_printable b) (not (eqb b 124)) p).0 in
    omega (arith, leb-true b 126 (both (leb 32 b) (leb b 126) q).1)
clean_byte (b ∷ s) (suc k) h = clean_byte s k (both (is_value_byte b) (is_clean s) h).1

padded_byte : (s : List ℕ) → is_clean s ≡ true → (k : ℕ) → get_or (padded s) k 0 < 256
padded_byte s h zero = clean_byte s 0 h
padded_byte s h (suc zero) = clean_byte s 1 h
padded_byte s h (suc (suc zero)) = clean_byte s 2 h
padded_byte s h (suc (suc (suc zero))) = clean_byte s 3 h
padded_byte s h (suc (suc (suc (suc k)))) = omega arith

pub station_once : (s t : List ℕ) → Station s → Station t → spelt (padded s) ≡ spelt (padded t) → s ≡ t
station_once s t a b e =
    let four : padded s ≡ padded t =
    sym (low_spelt (padded s) (padded_byte s (station_clean s a)) 4 0 (omega arith)) ∙ ap (low_bytes 4) e
    ∙ low_spelt (padded t) (padded_byte t (station_clean t b)) 4 0 (omega arith) in
    sym (station_back s a) ∙ ap unpadded four ∙ station_back t b
