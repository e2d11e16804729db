pub mod ComparisonLaws
pub mod Same
