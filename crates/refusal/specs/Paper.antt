-- Refusals and answers as the paper writes them.
use Rattle.std.specs.Prelude.{ℕ, List, [], ◌∷◌}
use Rattle.refusal.specs.Number.{number_of}
use Rattle.refusal.specs.declared.Kind.{Kind}
use Rattle.refusal.specs.declared.Kind.TheVariants.{TextTooLong, NoLineEnd, WrongByte, VersionExpected, BlockUnfinished, UnknownColumn, ColumnTwice, TooWide, WrongForm, OutOfRange, ElementMissing, GroupIncomplete, CentreNotEarth, TooManyRows, OutputTooShort, NoObservation, NoElement, FieldCountDiffers, ListTooShort, BadRecord, KindsMixed, ElementForeign, NotOptical, CutsDiffer}
use Rattle.refusal.specs.declared.Fault.{Fault}
use Rattle.refusal.specs.declared.Refusal.{Refusal}

-- The reasons of the paper's table, the first to the last.
abbrev pub reasons : List Kind
reasons =
    TextTooLong ∷ NoLineEnd ∷ WrongByte ∷ VersionExpected ∷ BlockUnfinished ∷ UnknownColumn ∷ ColumnTwice ∷ TooWide ∷ WrongForm ∷ OutOfRange
    ∷ ElementMissing ∷ GroupIncomplete ∷ CentreNotEarth ∷ TooManyRows ∷ OutputTooShort ∷ NoObservation ∷ NoElement ∷ FieldCountDiffers
    ∷ ListTooShort ∷ BadRecord ∷ KindsMixed ∷ ElementForeign ∷ NotOptical ∷ CutsDiffer ∷ []

-- The paper's number of a refusal, its line and its place.
pub record Paper : Type 0 where
  pub number : ℕ
  pub line : ℕ
  pub place : ℕ

-- Each refusal is a kind together with its line and place; the paper gives the kind by its number.
abbrev pub paper : Refusal → Paper
paper refusal = record { number = number_of refusal.kind; line = refusal.line; place = refusal.place }

-- A fault at a place of a line.
abbrev pub at : Kind → ℕ → Fault
at kind place = record { kind = kind; place = place }

-- The refusal of a report whose line has a fault.
abbrev pub on_line : ℕ → Fault → Refusal
on_line line fault = record { kind = fault.kind; line = line; place = fault.place }

-- A fault of the request, not of a line, has line and place 0.
abbrev pub request : Kind → Refusal
request kind = record { kind = kind; line = 0; place = 0 }

-- An answer as the paper gives it: a refusal by its number, line and place, "absent", or what was asked for.
pub data Answer (A : Type 0) : Type 0 where
  refused_by : Paper → Answer A
  absent : Answer A
  given : A → Answer A
