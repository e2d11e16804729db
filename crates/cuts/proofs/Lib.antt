-- Laws on cut lists: which is wanted, that no other is, and what it is where rows are turned into something else.
pub mod WantedUnique
pub mod CheapestLaws
pub mod CutLaws
-- Rows with marks: a block holds rows of one mark.
pub mod StretchCuts
-- Laws on the bytes of blocks.
pub mod SumLaws
pub mod UnionLaws
-- Like rows are never parted, so the search goes over runs.
pub mod LikeRows
pub mod GroupCuts
pub mod Trades
pub mod RunGroups
pub mod RunsWanted
-- Steps of the code.
pub mod BlockLaws
pub mod LeastLaws
pub mod LookLaws
pub mod TailLaws
pub mod FillLaws
pub mod WalkLaws
pub mod PressLaws
pub mod PlanLaws
pub mod ReadyLaws
pub mod RowLaws
pub mod StretchLaws
