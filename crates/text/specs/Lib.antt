pub mod Bytes
pub mod Class
pub mod Digits
pub mod Lines
pub mod Numbered
pub mod Output
pub mod Part
pub mod Steps
