-- The promises settle the answers, the list and the output, hold together as a pair, and shut out the shams.
pub mod Unique
pub mod Settled
pub mod Pair
pub mod ThreeLengths
pub mod Shams
-- Writing into the rest of the lent output.
pub mod WritingLaws
pub mod FieldLaws
pub mod StandingLaws
pub mod IndexLaws
pub mod ColumnLaws
pub mod BlockLaws
-- Planning, and the promise met.
pub mod SizeLaws
pub mod PlanLaws
pub mod RowCounts
pub mod PromiseLaws
