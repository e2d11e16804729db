pub mod Names
pub mod Unique
pub mod ThreeLengths
