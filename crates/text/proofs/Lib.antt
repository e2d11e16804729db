pub mod Bools
pub mod Chains
pub mod Classes
pub mod LineLaws
pub mod Numbers
pub mod Outputs
pub mod Parts
pub mod Table
