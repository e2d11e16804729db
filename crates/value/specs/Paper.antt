-- Values as the paper writes them.
use Rattle.std.specs.Prelude.{ℕ, Bool, ℤ, Result, Ok, Err}
use Rattle.refusal.specs.Number.{number_of}
use Rattle.refusal.specs.declared.Kind.{Kind}
use Rattle.value.specs.declared.Value.{Value}
use Rattle.value.specs.declared.Value.TheVariants.{NoValue, Whole, Decimal, Time, Angle, Scaled}

-- An exact value, or "no value". A decimal is a signed whole number with a count of places, a time a signed day number and the microseconds
-- of the day, an angle a number of units of 0.000000001 degree. A covariance is whether it is below zero, its whole number in two parts, high
-- and low by 10,000,000,000, and a signed power of ten.
pub data Exact : Type 0 where
  no_value : Exact
  whole : ℤ → Exact
  decimal : ℤ → ℕ → Exact
  time : ℤ → ℕ → Exact
  angle : ℤ → Exact
  scaled : Bool → ℕ → ℕ → ℤ → Exact

-- What a text is as a value: a fault by its number, or right, with its exact value.
pub data PaperValue : Type 0 where
  fault : ℕ → PaperValue
  right : Exact → PaperValue

-- Each exact value in the paper's terms.
abbrev pub exact : Value → Exact
exact NoValue = no_value
exact (Whole n) = whole n
exact (Decimal n places) = decimal n places
exact (Time day microseconds) = time day microseconds
exact (Angle units) = angle units
exact (Scaled negative high low power) = scaled negative high low power

-- Each value in the paper's terms.
abbrev pub paper_value : Result Value Kind → PaperValue
paper_value (Ok value) = right (exact value)
paper_value (Err kind) = fault (number_of kind)
