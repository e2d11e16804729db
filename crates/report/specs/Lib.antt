pub mod Report
pub mod Starts
pub mod Answers
pub mod Index
pub mod Inner
pub mod Specimen
pub mod Sums
