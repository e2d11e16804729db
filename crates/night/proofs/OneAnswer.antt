-- No two answers of an entry are written alike in the paper, so each promise settles its answer.
use Rattle.std.specs.Prelude.{Result, Ok, Err}
use Prim.Native.Nat.{ℕ}
use mathlib.Core.Path.{◌≡◌, refl, sym, ap, ◌∙◌}
use lib.IntN.{pos}
use Rattle.refusal.specs.Paper.{Answer, refused_by, absent, given}
use Rattle.refusal.specs.declared.Refusal.{Refusal}
use Rattle.refusal.proofs.Papers.{refusal_of, refusal_of_paper}
use Rattle.night.specs.List.{Done, written_paper, listed_paper, recorded_paper}
use Rattle.night.specs.declared.answer.Record.{Record}

-- The answer to a writing that the paper's answer stands for.
abbrev written_from : Answer Done → Result Unit Refusal
written_from (refused_by x) = Err (refusal_of x)
written_from absent = Ok tt
written_from (given x) = Ok tt

-- The paper's answer of each stands for it.
written_from_paper : (r : Result Unit Refusal) → written_from (written_paper r) ≡ r
written_from_paper (Ok x) = refl
written_from_paper (Err x) = ap Err (refusal_of_paper x)

-- No two are written alike.
pub one_written : (r s : Result Unit Refusal) → written_paper r ≡ written_paper s → r ≡ s
one_written r s e = sym (written_from_paper r) ∙ (ap written_from e ∙ written_from_paper s)

-- The answer to a check of a list that the paper's answer stands for.
abbrev listed_from : Answer ℕ → Result ℕ Refusal
listed_from (refused_by x) = Err (refusal_of x)
listed_from absent = Ok 0
listed_from (given n) = Ok n

-- The paper's answer of each stands for it.
listed_from_paper : (r : Result ℕ Refusal) → listed_from (listed_paper r) ≡ r
listed_from_paper (Ok n) = refl
listed_from_paper (Err x) = ap Err (refusal_of_paper x)

-- No two are written alike.
pub one_listed : (r s : Result ℕ Refusal) → listed_paper r ≡ listed_paper s → r ≡ s
one_listed r s e = sym (listed_from_paper r) ∙ (ap listed_from e ∙ listed_from_paper s)

-- The answer to a reading that the paper's answer stands for.
abbrev recorded_from : Answer Record → Result Record Refusal
recorded_from (refused_by x) = Err (refusal_of x)
recorded_from absent = Ok (record { number = 0; station = 0; day = pos 0; microseconds = 0; ra = pos 0; dec = pos 0 })
recorded_from (given fields) = Ok fields

-- The paper's answer of each stands for it.
recorded_from_paper : (r : Result Record Refusal) → recorded_from (recorded_paper r) ≡ r
recorded_from_paper (Ok fields) = refl
recorded_from_paper (Err x) = ap Err (refusal_of_paper x)

-- No two are written alike.
pub one_recorded : (r s : Result Record Refusal) → recorded_paper r ≡ recorded_paper s → r ≡ s
one_recorded r s e = sym (recorded_from_paper r) ∙ (ap recorded_from e ∙ recorded_from_paper s)
