-- The sham readers of document 01: for each a report where it does not answer as a check must.
use Prim.Native.Nat.{ℕ, zero, suc}
use mathlib.Core.Path.{◌≡◌, refl, sym, ap, ◌∙◌}
use mathlib.Core.List.{List, []}
use lib.ListN.{length}
use native.Mathlib.Omega.{arith}
use Rattle.std.specs.Prelude.{Result, Ok, Err}
use Rattle.refusal.specs.Paper.{paper, Answer, refused_by, given}
use Rattle.refusal.specs.declared.Refusal.{Refusal}
use Rattle.element.specs.Observation.{Observation}
use Rattle.report.specs.Report.{accepted, read}
use Rattle.report.specs.Answers.{checked_paper, checked_answer}
use Rattle.report.specs.Specimen.{specimen}
use Rattle.report.proofs.Computed.{reading}

-- A report where the sham's answer is not the one that is promised.
pub record Caught (sham : List ℕ → Result ℕ Refusal) : Type 0 where
  pub report : List ℕ
  pub fails : checked_paper (sham report) ≡ checked_answer (read report) → ⊥

empty_checks : checked_answer (read []) ≡ given 0
unfolding reading
empty_checks = refl

specimen_checks : checked_answer (read specimen) ≡ given 1
unfolding reading
specimen_checks = refl

-- One that refuses everything, with whatever kind, line and place: the empty text is accepted.
pub refuses_everything : (sham : List ℕ → Result ℕ Refusal) → ((t : List ℕ) → (x : Refusal) × (sham t ≡ Err x)) → Caught sham
refuses_everything sham h = record {
  report = [];
  fails = λ q. let e : ◌≡◌ {A = Answer ℕ} (refused_by (paper (h []).0)) (given 0) = sym (ap checked_paper (h []).1) ∙ (q ∙ empty_checks) in
      let z : ◌≡◌ {A = ℕ} 0 1 = cc in omega arith;
}

-- One that makes up the number of observations: the empty text has none and the specimen has one.
pub makes_up_the_number : (n : ℕ) → Caught (λ t. Ok n)
makes_up_the_number zero = record {
  report = specimen;
  fails = λ q. let e : ◌≡◌ {A = Answer ℕ} (given 0) (given 1) = q ∙ specimen_checks in let z : ◌≡◌ {A = ℕ} 0 1 = cc in omega arith;
}
makes_up_the_number (suc n) = record {
  report = [];
  fails = λ q. let e : ◌≡◌ {A = Answer ℕ} (given (suc n)) (given 0) = q ∙ empty_checks in let z : suc n ≡ 0 = cc in omega arith;
}

-- The number answered is that of the list read.
pub number_read : (t : List ℕ) (os : List Observation) (n : ℕ) → read t ≡ accepted os → checked_paper (Ok n) ≡ checked_answer (read t) → n ≡ length os
number_read t os n e q = let z : ◌≡◌ {A = Answer ℕ} (given n) (given (length os)) = q ∙ ap checked_answer e in cc
