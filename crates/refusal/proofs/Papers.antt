-- The paper's table of refusals, and that no two refusals are written alike.
use Prim.Native.Nat.{ℕ, ◌-◌}
use mathlib.Core.Path.{◌≡◌, refl, sym, ap, ◌∙◌}
use mathlib.Core.List.{[], ◌∷◌, map}
use lib.ListN.{get_or}
use Rattle.refusal.specs.Number.{number_of}
use Rattle.refusal.specs.Paper.{reasons, Paper, paper}
use Rattle.refusal.specs.declared.Kind.{Kind}
use Rattle.refusal.specs.declared.Kind.TheVariants.{TextTooLong, NoLineEnd, WrongByte, VersionExpected, BlockUnfinished, UnknownColumn, ColumnTwice, TooWide, WrongForm}
use Rattle.refusal.specs.declared.Kind.TheVariants.{OutOfRange, ElementMissing, GroupIncomplete, CentreNotEarth, TooManyRows, OutputTooShort, NoObservation, NoElement, FieldCountDiffers}
use Rattle.refusal.specs.declared.Kind.TheVariants.{ListTooShort, BadRecord, KindsMixed, ElementForeign, NotOptical, CutsDiffer}
use Rattle.refusal.specs.declared.Refusal.{Refusal}

-- The table's reasons are numbered from 1 to 24.
pub table_numbers : map number_of reasons
    ≡ 1 ∷ 2 ∷ 3 ∷ 4 ∷ 5 ∷ 6 ∷ 7 ∷ 8 ∷ 9 ∷ 10 ∷ 11 ∷ 12 ∷ 13 ∷ 14 ∷ 15 ∷ 16 ∷ 17 ∷ 18 ∷ 19 ∷ 20 ∷ 21 ∷ 22 ∷ 23 ∷ 24 ∷ []
table_numbers = refl

-- The reason of a number.
abbrev kind_of : ℕ → Kind
kind_of number = get_or reasons (number - 1) TextTooLong

-- Each kind is the reason of its number.
kind_of_number : (kind : Kind) → kind_of (number_of kind) ≡ kind
kind_of_number TextTooLong = refl
kind_of_number NoLineEnd = refl
kind_of_number WrongByte = refl
kind_of_number VersionExpected = refl
kind_of_number BlockUnfinished = refl
kind_of_number UnknownColumn = refl
kind_of_number ColumnTwice = refl
kind_of_number TooWide = refl
kind_of_number WrongForm = refl
kind_of_number OutOfRange = refl
kind_of_number ElementMissing = refl
kind_of_number GroupIncomplete = refl
kind_of_number CentreNotEarth = refl
kind_of_number TooManyRows = refl
kind_of_number OutputTooShort = refl
kind_of_number NoObservation = refl
kind_of_number NoElement = refl
kind_of_number FieldCountDiffers = refl
kind_of_number ListTooShort = refl
kind_of_number BadRecord = refl
kind_of_number KindsMixed = refl
kind_of_number ElementForeign = refl
kind_of_number NotOptical = refl
kind_of_number CutsDiffer = refl

-- The refusal of a number, a line and a place.
abbrev pub refusal_of : Paper → Refusal
refusal_of written = record { kind = kind_of written.number; line = written.line; place = written.place }

-- Each refusal is that of its number, line and place.
pub refusal_of_paper : (refusal : Refusal) → refusal_of (paper refusal) ≡ refusal
refusal_of_paper refusal =
    ap (λ (kind : Kind). record { kind = kind; line = refusal.line; place = refusal.place }) (kind_of_number refusal.kind)

-- No two refusals have the same number, line and place.
pub one_paper : (refusal other : Refusal) → paper refusal ≡ paper other → refusal ≡ other
one_paper refusal other e = sym (refusal_of_paper refusal) ∙ (ap refusal_of e ∙ refusal_of_paper other)
