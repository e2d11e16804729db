pub mod BlockLaws
pub mod LineLaws
pub mod PartLaws
pub mod TableLaws
