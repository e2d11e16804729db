-- Laws of the test of a record as code makes it, and of the numbers that code reads.
use Prim.Native.Nat.{ℕ, zero, suc, ◌^◌, ◌≤◌, ◌<◌}
use mathlib.Core.Path.{◌≡◌, refl, sym, ap, ◌∙◌}
use mathlib.Core.Bool.{Bool, true, false, ◌&&◌}
use mathlib.Core.List.{List}
use native.Mathlib.Omega.{arith}
use lib.Dec.{eqb, leb}
use lib.ListN.{get_or, take, drop}
use borrow.Author.Tests.{eq-eqb, ne_eqb}
use lib.Seq.{take-take}
use Rattle.std.specs.Prelude.{Some, None}
use Rattle.text.specs.Numbered.{numbered}
use Rattle.text.specs.Output.{spelt}
use Rattle.refusal.specs.Paper.{paper, request, refused_by, given}
use Rattle.refusal.specs.declared.Kind.TheVariants.{NoObservation}
use Rattle.night.specs.Record.{spelt_at, unpadded, fields_of, is_within, is_record}
use Rattle.night.specs.List.{record_at, record_count, first_bad, bad_record, list_answer, told, record_answer}
use Rattle.night.specs.Inner.{numbers_of, is_whole, is_within_numbers}
use Rattle.night.proofs.Direct.{spelt_below, station_bytes, direct_is}
use Rattle.night.proofs.Exact.{writable_record}
use Rattle.night.proofs.ListExact.{record_long, list_exact, given_none, told_at}

module _ (s : List ℕ) (byte : (k : ℕ) → get_or s k 0 < 256) where
  -- A number that is read from a place.
  pub number_is : (from count : ℕ) {n : ℕ} {part : List ℕ} → count ≤ 8 → part ≡ drop from s → n ≡ spelt (take count (take 8 part))
      → (n ≡ spelt_at from count s) × (n < 256 ^ count)
  number_is from count {n} {part} few p e =
      let q : n ≡ spelt_at from count s = e ∙ ap spelt (take-take count 8 part few ∙ ap (λ (l : List ℕ). take count l) p) in
      (q, rw q (spelt_below s byte count from))

  -- The test of a record, whole or not, by what code reads of it.
  pub test_is : (n : ℕ) → (is_whole s && (eqb (numbers_of s).number n && is_within_numbers (numbers_of s) (unpadded (take 4 (drop 4 s))))) ≡ is_record n s
  unfolding is_within fields_of
  test_is n = sym (direct_is n s byte ∙ last_first (eqb (fields_of s).number n) (is_within (fields_of s)) (is_whole s))
    where
      last_first : (a b t : Bool) → ((a && b) && t) ≡ (t && (a && b))
      last_first true true true = refl
      last_first true true false = refl
      last_first true false true = refl
      last_first true false false = refl
      last_first false b true = refl
      last_first false b false = refl

  -- Of a whole record with the number, the rest of the test is all of it.
  pub whole_is : (n : ℕ) → is_whole s ≡ true → (numbers_of s).number ≡ n
      → is_within_numbers (numbers_of s) (unpadded (take 4 (drop 4 s))) ≡ is_record n s
  whole_is n w e = rw (w, eq-eqb (numbers_of s).number n e) at (test_is n)

-- What a right record tells is what code reads.
pub told_numbers : (n : ℕ) (s : List ℕ) → is_record n s ≡ true → told (fields_of s) ≡ numbers_of s
unfolding fields_of
told_numbers n s h = rw (station_bytes s (record_long n s h).0)

-- A number from 1 that is none is 0, and one that is some is that number.
none_is : (n : ℕ) → None ≡ numbered n → n ≡ 0
none_is zero e = refl
none_is (suc n) e = cc

some_is : (n : ℕ) {m : ℕ} → Some m ≡ numbered n → (eqb n 0 ≡ false) × (m ≡ n)
some_is zero e = cc
some_is (suc n) e = (ne_eqb (suc n) 0 (λ z. omega arith), cc)

-- The check's answers, by the first bad record.
module _ (list : List ℕ) where
  pub list_right : None ≡ numbered (first_bad list) → {count : ℕ} → count ≡ record_count list → given count ≡ list_answer list
  unfolding list_answer
  list_right e c = rw (none_is _ e, c) refl

  pub list_bad : {bad : ℕ} → Some bad ≡ numbered (first_bad list) → refused_by (paper (bad_record bad)) ≡ list_answer list
  unfolding list_answer
  list_bad e = let some = some_is _ e in rw (some.0, some.1) refl

  -- The reader's, of a list that has so many records, all right.
  module _ (count n : ℕ) (all : given count ≡ list_answer list) where
    pub record_none : (leb 1 n && leb n count) ≡ false → refused_by (paper (request NoObservation)) ≡ record_answer list n
    unfolding record_answer
    record_none out = let right = given_none list count (sym all) in rw (right.0, right.1, out) refl

    module _ (first : 1 ≤ n) (last : n ≤ count) where
      pub in_list : n ≤ record_count list
      in_list = omega (arith, (given_none list count (sym all)).1)

      pub record_told : {bytes : List ℕ} → bytes ≡ record_at n list → given (numbers_of bytes) ≡ record_answer list n
      record_told e =
          let right = given_none list count (sym all) in
          let whole : is_record n (record_at n list) ≡ true = writable_record n (record_at n list) ((list_exact list).all right.0 n first (omega (arith, right.1))) in
          rw (e, ← told_numbers n (record_at n list) whole) (sym (told_at list n right.0 first in_list))
