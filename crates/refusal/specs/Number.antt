-- The paper's number of each kind of refusal.
use Rattle.std.specs.Prelude.{ℕ}
use Rattle.refusal.specs.declared.Kind.{Kind}
use Rattle.refusal.specs.declared.Kind.TheVariants.{TextTooLong, NoLineEnd, WrongByte, VersionExpected, BlockUnfinished, UnknownColumn, ColumnTwice, TooWide, WrongForm, OutOfRange, ElementMissing, GroupIncomplete, CentreNotEarth, TooManyRows, OutputTooShort, NoObservation, NoElement, FieldCountDiffers, ListTooShort, BadRecord, KindsMixed, ElementForeign, NotOptical, CutsDiffer}

-- The refusal's number in document 01, and in document 02 from 19 on.
abbrev pub number_of : Kind → ℕ
number_of TextTooLong = 1
number_of NoLineEnd = 2
number_of WrongByte = 3
number_of VersionExpected = 4
number_of BlockUnfinished = 5
number_of UnknownColumn = 6
number_of ColumnTwice = 7
number_of TooWide = 8
number_of WrongForm = 9
number_of OutOfRange = 10
number_of ElementMissing = 11
number_of GroupIncomplete = 12
number_of CentreNotEarth = 13
number_of TooManyRows = 14
number_of OutputTooShort = 15
number_of NoObservation = 16
number_of NoElement = 17
number_of FieldCountDiffers = 18
number_of ListTooShort = 19
number_of BadRecord = 20
number_of KindsMixed = 21
number_of ElementForeign = 22
number_of NotOptical = 23
number_of CutsDiffer = 24
