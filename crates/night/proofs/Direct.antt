-- The test of a record as code makes it: 40 bytes, the number, each field in its range, and zeros at the end.
use Prim.Native.Nat.{ℕ, zero, suc, ◌+◌, ◌-◌, ◌*◌, ◌/◌, ◌%◌, ◌^◌, ◌≤◌, ◌<◌}
use mathlib.Core.Path.{◌≡◌, refl, ap, sym, ◌∙◌}
use mathlib.Core.Bool.{Bool, false, ◌&&◌}
use mathlib.Core.List.{List, [], ◌∷◌, ◌++◌}
use native.Mathlib.Nat.{pow-suc}
use native.Mathlib.Omega.{arith}
use lib.Dec.{eqb}
use lib.ListN.{length, get_or, take, drop, take-append-drop, length-take, length-drop}
use lib.Seq.{drop-cons, drop-drop, take_all}
use borrow.Author.Tests.{eqb-true, eqb-false}
use mir.Syntax.{w32, w64}
use mir.Val.{of_z, to_z, Fits}
use mir.Facts.{of_z-to_z, sfits_to_z}
use Rattle.text.specs.Output.{low_bytes, spelt}
use Rattle.text.specs.Part.{same}
use Rattle.text.proofs.Bools.{bools}
use Rattle.text.proofs.Parts.{same_is, same_refl}
use Rattle.element.specs.Observation.{Observation}
use Rattle.night.specs.Record.{Fields, padded, unpadded, spelt_at, fields_in, record_bytes, record_of, fields_of, is_within, is_record}
use Rattle.night.proofs.RecordLaws.{low_four}

-- Past its end a text spells nothing.
spelt_none : (n from : ℕ) → spelt (take n (drop from [])) ≡ 0
unfolding spelt
spelt_none zero from = refl
spelt_none (suc n) zero = refl
spelt_none (suc n) (suc from) = refl

-- One byte more.
spelt_step : (s : List ℕ) (from n : ℕ) → spelt (take (suc n) (drop from s)) ≡ get_or s from 0 + 256 * spelt (take n (drop (suc from) s))
unfolding spelt
spelt_step [] from n = omega (arith, spelt_none (suc n) from, spelt_none n (suc from))
spelt_step (b ∷ t) zero n = omega arith
spelt_step (b ∷ t) (suc from) n = spelt_step t from n

-- Four bytes of a station, unpadded and padded again.
pub station_bytes : (s : List ℕ) → length s ≡ 40 → padded (unpadded (take 4 (drop 4 s))) ≡ take 4 (drop 4 s)
station_bytes s h = four (take 4 (drop 4 s)) (omega (arith, length-take 4 (drop 4 s), length-drop 4 s))
  where
    four : (p : List ℕ) → length p ≡ 4 → padded (unpadded p) ≡ p
    four [] e = absurd (omega arith)
    four (a ∷ []) e = absurd (omega arith)
    four (a ∷ b ∷ []) e = absurd (omega arith)
    four (a ∷ b ∷ c ∷ []) e = absurd (omega arith)
    four (a ∷ b ∷ c ∷ d ∷ []) e = bools (eqb d 32) (λ q. rw q (ap (λ (x : ℕ). a ∷ b ∷ c ∷ x ∷ []) (sym (eqb-true d 32 q)))) (λ q. rw q)
    four (a ∷ b ∷ c ∷ d ∷ x ∷ p) e = absurd (omega arith)

module _ (s : List ℕ) (byte : (k : ℕ) → get_or s k 0 < 256) where
  -- Bytes make a number of so many bytes at most.
  pub spelt_below : (n from : ℕ) → spelt (take n (drop from s)) < 256 ^ n
  unfolding spelt
  spelt_below zero from = omega arith
  spelt_below (suc n) from = omega (arith, spelt_step s from n, spelt_below n (suc from), byte from, pow-suc 256 n)

  -- And that number makes them.
  pub low_spelt : (n from : ℕ) → from + n ≤ length s → low_bytes n (spelt (take n (drop from s))) ≡ take n (drop from s)
  unfolding low_bytes
  low_spelt zero from h = refl
  low_spelt (suc n) from h =
      let b = get_or s from 0 in
      let r = spelt (take n (drop (suc from) s)) in
      let x = spelt_step s from n in
      let m : spelt (take (suc n) (drop from s)) % 256 ≡ b = omega (arith, byte from) in
      let d : spelt (take (suc n) (drop from s)) / 256 ≡ r = omega (arith, byte from) in
      rw (m, d, low_spelt n (suc from) (omega arith)) (sym (ap (λ (l : List ℕ). take (suc n) l) (drop-cons s from 0 (omega arith))))

  -- The bits of the signed numbers.
  day_bits : (from : ℕ) → low_bytes 4 (of_z w64 (to_z w32 (spelt_at from 4 s))) ≡ low_bytes 4 (spelt_at from 4 s)
  day_bits from =
      let fits : Fits w32 (spelt_at from 4 s) = record { fits = omega (arith, spelt_below 4 from) } in
      low_four (to_z w32 (spelt_at from 4 s)) (sfits_to_z {w = w32} {n = spelt_at from 4 s} fits).sfits
      ∙ ap (low_bytes 4) (of_z-to_z {w = w32} {n = spelt_at from 4 s} fits)

  angle_bits : (from : ℕ) → of_z w64 (to_z w64 (spelt_at from 8 s)) ≡ spelt_at from 8 s
  angle_bits from = of_z-to_z {w = w64} {n = spelt_at from 8 s} (record { fits = omega (arith, spelt_below 8 from) })

  -- A part, and what follows it.
  cut : (from n : ℕ) → take n (drop from s) ++ drop (from + n) s ≡ drop from s
  cut from n = ap (λ (l : List ℕ). take n (drop from s) ++ l) (sym (drop-drop n from s)) ∙ take-append-drop n (drop from s)

  -- The last four bytes are zero.
  end_zero : length s ≡ 40 → spelt_at 36 4 s ≡ 0 → low_bytes 4 0 ≡ drop 36 s
  end_zero h z =
      ap (low_bytes 4) (sym z) ∙ (low_spelt 4 36 (omega arith) ∙ take_all 4 (drop 36 s) (omega (arith, length-drop 36 s)))

  -- Forty bytes with zeros at their end are the record of their fields.
  rebuilt : length s ≡ 40 → spelt_at 36 4 s ≡ 0 → record_bytes (fields_of s) ≡ s
  unfolding record_bytes fields_of
  rebuilt h z =
      let n : spelt_at 0 4 s + 1 - 1 ≡ spelt_at 0 4 s = omega arith in
      ap (λ (p : List ℕ). low_bytes 4 (spelt_at 0 4 s + 1 - 1) ++ (p ++ (low_bytes 4 (of_z w64 (to_z w32 (spelt_at 8 4 s))) ++ (low_bytes 8 (spelt_at 12 8 s)
      ++ (low_bytes 8 (of_z w64 (to_z w64 (spelt_at 20 8 s))) ++ (low_bytes 8 (of_z w64 (to_z w64 (spelt_at 28 8 s))) ++ low_bytes 4 0)))))) (station_bytes s h)
      ∙ rw (
        n,
        day_bits 8,
        angle_bits 20,
        angle_bits 28,
        low_spelt 4 0 (omega arith),
        low_spelt 4 8 (omega arith),
        low_spelt 8 12 (omega arith),
        low_spelt 8 20 (omega arith),
        low_spelt 8 28 (omega arith),
        end_zero h z,
        cut 28 8,
        cut 20 8,
        cut 12 8,
        cut 8 4,
        cut 4 4,
      )
      (take-append-drop 4 s)

-- A record has forty bytes, and zeros at its end.
pub record_length : (f : Fields) → length (record_bytes f) ≡ 40
unfolding record_bytes low_bytes
record_length f = refl

record_end : (f : Fields) → spelt_at 36 4 (record_bytes f) ≡ 0
unfolding record_bytes low_bytes spelt
record_end f = refl

-- An observation's has forty bytes too.
pub record_of_length : (n : ℕ) (o : Observation) → length (record_of n o) ≡ 40
unfolding record_of
record_of_length n o = record_length (fields_in n o)

-- The test of the bytes.
record_test : (s : List ℕ) → ((k : ℕ) → get_or s k 0 < 256) → same s (record_bytes (fields_of s)) ≡ eqb (length s) 40 && eqb (spelt_at 36 4 s) 0
record_test s byte =
    bools (eqb (length s) 40)
    (λ a. bools (eqb (spelt_at 36 4 s) 0)
    (λ b. rw (a, b, rebuilt s byte (eqb-true _ _ a) (eqb-true _ _ b)) (same_refl s))
    (λ b. rw (a, b) (other (λ e. eqb-false (spelt_at 36 4 s) 0 b (ap (λ (l : List ℕ). spelt_at 36 4 l) e ∙ record_end (fields_of s))))))
    (λ a. rw a (other (λ e. eqb-false (length s) 40 a (ap length e ∙ record_length (fields_of s)))))
  where
    other : (s ≡ record_bytes (fields_of s) → ⊥) → same s (record_bytes (fields_of s)) ≡ false
    other unequal = bools (same s (record_bytes (fields_of s))) (λ e. absurd (unequal (same_is s (record_bytes (fields_of s)) e))) (λ e. e)

-- A record's test as code makes it.
pub direct_is : (n : ℕ) (s : List ℕ) → ((k : ℕ) → get_or s k 0 < 256)
    → is_record n s ≡ eqb (fields_of s).number n && is_within (fields_of s) && (eqb (length s) 40 && eqb (spelt_at 36 4 s) 0)
unfolding is_record
direct_is n s byte = ap (λ (t : Bool). eqb (fields_of s).number n && is_within (fields_of s) && t) (record_test s byte)
