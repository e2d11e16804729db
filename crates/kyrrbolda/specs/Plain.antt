-- The paper's answers as plain structs: the number, line and place of a refusal, and the values of each case. What a case does not say is 0.
use Rattle.std.specs.Prelude.{ℕ, Bool, List, ◌≡◌, ℤ, pos}
use Rattle.refusal.specs.Paper.{Answer, refused_by, absent, given}
use Rattle.value.specs.Paper.{Exact, no_value, whole, decimal, time, angle, scaled}
use Rattle.element.specs.Observation.{bit}
use Rattle.pack.specs.Promise.{MeasurePromised, WritePromised}
use Rattle.kyrrbolda.specs.declared.KyrrChecked.{KyrrChecked}
use Rattle.kyrrbolda.specs.declared.KyrrShown.{KyrrShown}
use Rattle.kyrrbolda.specs.declared.KyrrValued.{KyrrValued}
use Rattle.kyrrbolda.specs.declared.KyrrMeasured.{KyrrMeasured}
use Rattle.kyrrbolda.specs.declared.KyrrWritten.{KyrrWritten}

-- The answer of a check: how many observations.
abbrev pub plain_checked : Answer ℕ → KyrrChecked
plain_checked (refused_by x) = record { refused = x.number; line = x.line; place = x.place; observations = 0 }
plain_checked absent = record { refused = 0; line = 0; place = 0; observations = 0 }
plain_checked (given n) = record { refused = 0; line = 0; place = 0; observations = n }

-- The answer to a show: where the value starts, and its length.
abbrev pub plain_shown : Answer (ℕ × ℕ) → KyrrShown
plain_shown (refused_by x) = record { refused = x.number; line = x.line; place = x.place; absent = 0; start = 0; length = 0 }
plain_shown absent = record { refused = 0; line = 0; place = 0; absent = 1; start = 0; length = 0 }
plain_shown (given value) = record { refused = 0; line = 0; place = 0; absent = 0; start = value.0; length = value.1 }

-- A value of a kind below 6, where nothing is refused.
abbrev pub valued_as : ℕ → ℤ → ℕ → KyrrValued
valued_as kind number part = record {
  refused = 0;
  line = 0;
  place = 0;
  kind = kind;
  whole = number;
  part = part;
  negative = 0;
  high = 0;
  low = 0;
  power = pos 0;
}

-- A value of kind 6: whether it is below zero, its whole number in two parts, its power of ten.
abbrev pub scaled_plainly : Bool → ℕ → ℕ → ℤ → KyrrValued
scaled_plainly negative high low power = record {
  refused = 0;
  line = 0;
  place = 0;
  kind = 6;
  whole = pos 0;
  part = 0;
  negative = bit negative;
  high = high;
  low = low;
  power = power;
}

-- The answer to a value. Kinds: 0 no value, 1 absent, 2 a whole number, 3 a decimal, 4 a time, 5 an angle, 6 a covariance.
abbrev pub plain_valued : Answer Exact → KyrrValued
plain_valued (refused_by x) = record {
  refused = x.number;
  line = x.line;
  place = x.place;
  kind = 0;
  whole = pos 0;
  part = 0;
  negative = 0;
  high = 0;
  low = 0;
  power = pos 0;
}
plain_valued absent = valued_as 1 (pos 0) 0
plain_valued (given no_value) = valued_as 0 (pos 0) 0
plain_valued (given (whole n)) = valued_as 2 n 0
plain_valued (given (decimal n places)) = valued_as 3 n places
plain_valued (given (time day microseconds)) = valued_as 4 day microseconds
plain_valued (given (angle units)) = valued_as 5 units 0
plain_valued (given (scaled negative high low power)) = scaled_plainly negative high low power

-- The answer of measuring: how many bytes, and how many blocks.
abbrev pub plain_measured : Answer (ℕ × ℕ) → KyrrMeasured
plain_measured (refused_by x) = record { refused = x.number; line = x.line; place = x.place; length = 0; blocks = 0 }
plain_measured absent = record { refused = 0; line = 0; place = 0; length = 0; blocks = 0 }
plain_measured (given pair) = record { refused = 0; line = 0; place = 0; length = pair.0; blocks = pair.1 }

-- What measuring promises: the promise of the list lent for the cuts before and after, with the paper's answer as a plain struct.
pub record MeasuredPlainly (report before after : List ℕ) (answer : KyrrMeasured) : Type 0 where
  pub paper : Answer (ℕ × ℕ)
  pub promised : MeasurePromised report before after paper
  pub is : answer ≡ plain_measured paper

-- The answer of writing: how many bytes.
abbrev pub plain_written : Answer ℕ → KyrrWritten
plain_written (refused_by x) = record { refused = x.number; line = x.line; place = x.place; length = 0 }
plain_written absent = record { refused = 0; line = 0; place = 0; length = 0 }
plain_written (given n) = record { refused = 0; line = 0; place = 0; length = n }

-- What writing promises: the promise of the cuts that were handed in and of the output before and after, with the paper's answer as a plain
-- struct.
pub record WrittenPlainly (report handed before after : List ℕ) (answer : KyrrWritten) : Type 0 where
  pub paper : Answer ℕ
  pub promised : WritePromised report handed before after paper
  pub is : answer ≡ plain_written paper
