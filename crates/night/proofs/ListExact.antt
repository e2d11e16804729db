-- The reader of a list names the first record that no accepted observation at its place could have written.
use Prim.Native.Nat.{ℕ, zero, suc, ◌+◌, ◌*◌, ◌≤◌, ◌<◌}
use mathlib.Core.Path.{◌≡◌, refl, ap, sym, ◌∙◌}
use mathlib.Core.Bool.{Bool, true, false, cond, true≢false}
use mathlib.Core.List.{List}
use native.Mathlib.Omega.{arith}
use lib.Dec.{eqb}
use lib.ListN.{length, drop, length-take, length-drop}
use borrow.Author.Tests.{eqb-true, eqb-false, le-leb}
use Rattle.text.proofs.Bools.{bools}
use Rattle.refusal.specs.Paper.{Paper, refused_by, given, paper}
use Rattle.report.specs.Report.{row_limit}
use Rattle.night.specs.Record.{fields_of, is_record}
use Rattle.night.specs.List.{record_size, place_of, record_at, Writable, record_count, bad_from, first_bad, bad_record, list_answer, told, record_answer}
use Rattle.night.proofs.Direct.{record_length}
use Rattle.night.proofs.Exact.{right_record, record_writable, writable_record}

-- What a right record is: of 40 bytes, at a number within the limit.
pub record_long : (n : ℕ) (bytes : List ℕ) → is_record n bytes ≡ true → (length bytes ≡ record_size) × (1 ≤ n) × (n ≤ row_limit)
record_long n bytes h =
    let r = right_record n bytes h in
    let w = r.within in
    (ap length (sym r.is) ∙ record_length (fields_of bytes), omega (arith, r.number_is, w.first), omega (arith, r.number_is, w.last))

-- So a short record is bad, and so is one past the limit.
pub short_bad : (n : ℕ) (bytes : List ℕ) → length bytes < record_size → is_record n bytes ≡ false
short_bad n bytes h = bools (is_record n bytes) (λ e. absurd (omega (arith, (record_long n bytes e).0))) (λ e. e)

pub past_bad : (n : ℕ) (bytes : List ℕ) → row_limit < n → is_record n bytes ≡ false
past_bad n bytes h = bools (is_record n bytes) (λ e. absurd (omega (arith, (record_long n bytes e).2))) (λ e. e)

-- What the search finds: it names no record and each could have been written, or it names the first that could not.
pub record Found (list : List ℕ) (from to answer : ℕ) : Type 0 where
  pub before : (k : ℕ) → from ≤ k → k < to → (answer ≡ 0 → ⊥) → k < answer → Writable k (record_at k list)
  pub all : answer ≡ 0 → (k : ℕ) → from ≤ k → k < to → Writable k (record_at k list)
  pub bad : (answer ≡ 0 → ⊥) → (from ≤ answer) × (answer < to) × (Writable answer (record_at answer list) → ⊥)

found_from : (count n : ℕ) (list : List ℕ) → 1 ≤ n → Found list n (n + count) (bad_from count n list)
unfolding bad_from
found_from zero n list h = record {
  before = λ k a b c d. absurd (omega arith);
  all = λ e k a b. absurd (omega arith);
  bad = λ e. absurd (e refl);
}
found_from (suc count) n list h =
    bools (is_record n (record_at n list))
    (λ q. rw q (good (bad_from count (suc n) list) (record_writable n (record_at n list) q) (found_from count (suc n) list (omega arith))))
    (λ q. rw q (record {
      before = λ k a b c d. absurd (omega arith);
      all = λ e k a b. absurd (omega arith);
      bad = λ e. (omega arith, omega arith, λ w. true≢false (sym (writable_record n (record_at n list) w) ∙ q));
    }))
  where
    here : (k : ℕ) → k ≡ n → Writable n (record_at n list) → Writable k (record_at k list)
    here k e w = rw e w

    good : (answer : ℕ) → Writable n (record_at n list) → Found list (suc n) (suc n + count) answer → Found list n (n + suc count) answer
    good answer w f = record {
      before = λ k a b c d. bools (eqb k n) (λ e. here k (eqb-true k n e) w) (λ e. f.before k (let z = eqb-false k n e in omega arith) (omega arith) c d);
      all = λ z k a b. bools (eqb k n) (λ e. here k (eqb-true k n e) w) (λ e. f.all z k (let y = eqb-false k n e in omega arith) (omega arith));
      bad = λ e. let g = f.bad e in (omega arith, omega arith, g.2);
    }

-- Of a whole list.
pub list_exact : (list : List ℕ) → Found list 1 (1 + record_count list) (first_bad list)
unfolding first_bad
list_exact list = found_from (record_count list) 1 list (omega arith)

-- What the answers of the check and of the reader come from.
pub given_none : (list : List ℕ) (count : ℕ) → list_answer list ≡ given count → (first_bad list ≡ 0) × (record_count list ≡ count)
unfolding list_answer
given_none list count h =
    let p = test (eqb (first_bad list) 0) (record_count list) (paper (bad_record (first_bad list))) h in (eqb-true (first_bad list) 0 p.0, p.1)
  where
    test : (t : Bool) (n : ℕ) (p : Paper) → cond t (given n) (refused_by p) ≡ given count → (t ≡ true) × (n ≡ count)
    test true n p e = (refl, cc)
    test false n p e = let z : ◌≡◌ {A = ℕ} 0 1 = cc in absurd (omega arith)

refused_some : (list : List ℕ) (answer : Paper) → list_answer list ≡ refused_by answer
    → (eqb (first_bad list) 0 ≡ false) × (paper (bad_record (first_bad list)) ≡ answer)
unfolding list_answer
refused_some list answer h = test (eqb (first_bad list) 0) (record_count list) (paper (bad_record (first_bad list))) h
  where
    test : (t : Bool) (n : ℕ) (p : Paper) → cond t (given n) (refused_by p) ≡ refused_by answer → (t ≡ false) × (p ≡ answer)
    test true n p e = let z : ◌≡◌ {A = ℕ} 0 1 = cc in absurd (omega arith)
    test false n p e = (refl, cc)

pub told_at : (list : List ℕ) (k : ℕ) → first_bad list ≡ 0 → 1 ≤ k → k ≤ record_count list → record_answer list k ≡ given (told (fields_of (record_at k list)))
unfolding record_answer
told_at list k none a b = rw (none, le-leb 1 k a, le-leb k (record_count list) b)

-- A list of whole records, so many, each of which could have been written.
pub record Whole (list : List ℕ) (count : ℕ) : Type 0 where
  pub counted : record_count list ≡ count
  pub sized : length list ≡ count * record_size
  pub each : (k : ℕ) → 1 ≤ k → k ≤ count → Writable k (record_at k list)

-- A list whose last record has 40 bytes ends with it.
last_whole : (list : List ℕ) → (1 ≤ record_count list → length (record_at (record_count list) list) ≡ record_size)
    → length list ≡ record_count list * record_size
last_whole list h =
    let n = record_count list in
    bools (eqb n 0)
    (λ e. let z = eqb-true n 0 e in omega arith)
    (λ e.
    let z = eqb-false n 0 e in
    let some : 1 ≤ n = omega arith in
    omega (arith, h some, length-take record_size (drop (place_of n) list), length-drop (place_of n) list))

whole_of : (list : List ℕ) → first_bad list ≡ 0 → Whole list (record_count list)
whole_of list e =
    let n = record_count list in
    let each : (k : ℕ) → 1 ≤ k → k ≤ n → Writable k (record_at k list) = λ k a b. (list_exact list).all e k a (omega arith) in
    record {
      counted = refl;
      sized = last_whole list (λ h. (record_long n (record_at n list) (writable_record n (record_at n list) (each n h (omega arith)))).0);
      each = each;
    }

-- A count is given only of such a list, and the reader then gives the fields of each of its records.
pub list_given : (list : List ℕ) (count : ℕ) → list_answer list ≡ given count → Whole list count
list_given list count h = let p = given_none list count h in rw p.1 at (whole_of list p.0)

pub each_told : (list : List ℕ) (count : ℕ) → list_answer list ≡ given count
    → (k : ℕ) → 1 ≤ k → k ≤ count → record_answer list k ≡ given (told (fields_of (record_at k list)))
each_told list count h k a b = let p = given_none list count h in told_at list k p.0 a (omega arith)

-- Of every list whose records could have been written a count is given.
pub list_all : (list : List ℕ) → ((k : ℕ) → 1 ≤ k → k ≤ record_count list → Writable k (record_at k list)) → list_answer list ≡ given (record_count list)
unfolding list_answer
list_all list each =
    bools (eqb (first_bad list) 0)
    (λ e. rw e)
    (λ e. let b = (list_exact list).bad (eqb-false (first_bad list) 0 e) in absurd (b.2 (each (first_bad list) b.0 (omega arith))))

-- 20 with line 0, at the first record that could not have been written.
pub record FirstBad (list : List ℕ) (answer : Paper) : Type 0 where
  pub number : ℕ
  pub is : answer ≡ record { number = 20; line = 0; place = number }
  pub first : 1 ≤ number
  pub last : number ≤ record_count list
  pub before : (k : ℕ) → 1 ≤ k → k < number → Writable k (record_at k list)
  pub bad : Writable number (record_at number list) → ⊥

-- No other refusal is given of a list, and the reader of a record is refused as the list is.
pub list_refused : (list : List ℕ) (answer : Paper) → list_answer list ≡ refused_by answer → FirstBad list answer
list_refused list answer h =
    let f = list_exact list in
    let p = refused_some list answer h in
    let some = eqb-false (first_bad list) 0 p.0 in
    let b = f.bad some in
    record {
      number = first_bad list;
      is = sym p.1;
      first = b.0;
      last = omega arith;
      before = λ k a c. f.before k a (omega arith) some c;
      bad = b.2;
    }

pub none_told : (list : List ℕ) (answer : Paper) → list_answer list ≡ refused_by answer → (k : ℕ) → record_answer list k ≡ refused_by answer
unfolding record_answer
none_told list answer h k = let p = refused_some list answer h in rw p.0 (ap refused_by p.1)
