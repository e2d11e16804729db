-- No second answer, list or output meets the promise of `kyrr_length`, and none that of `kyrr_write`.
use Prim.Native.Nat.{ℕ}
use mathlib.Core.Path.{◌≡◌, sym, ap, ◌∙◌}
use mathlib.Core.List.{List}
use Rattle.pack.proofs.Unique.{one_measured, one_written}
use Rattle.kyrrbolda.specs.Plain.{plain_measured, MeasuredPlainly, plain_written, WrittenPlainly}
use Rattle.kyrrbolda.specs.declared.KyrrMeasured.{KyrrMeasured}
use Rattle.kyrrbolda.specs.declared.KyrrWritten.{KyrrWritten}

-- The promise settles the answer and every number of the list.
pub one_length : (report before after other : List ℕ) (answer second : KyrrMeasured) → MeasuredPlainly report before after answer
    → MeasuredPlainly report before other second → (answer ≡ second) × (after ≡ other)
one_length report before after other answer second p q =
    let e = one_measured report before after other p.paper q.paper p.promised q.promised in
    (p.is ∙ (ap plain_measured e.0 ∙ sym q.is), e.1)

-- The promise settles the answer and every byte of the output.
pub one_write : (report handed before after other : List ℕ) (answer second : KyrrWritten) → WrittenPlainly report handed before after answer
    → WrittenPlainly report handed before other second → (answer ≡ second) × (after ≡ other)
one_write report handed before after other answer second p q =
    let e = one_written report handed before after other p.paper q.paper p.promised q.promised in
    (p.is ∙ (ap plain_written e.0 ∙ sym q.is), e.1)
