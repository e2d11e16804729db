pub mod Comparison
pub mod Steps
