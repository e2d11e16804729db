pub mod Part
pub mod Tables
pub mod Line
pub mod Oddity
pub mod Blocks
