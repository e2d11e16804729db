pub mod Form
pub mod Observation
pub mod Same
pub mod Set
pub mod Sums
pub mod Table
