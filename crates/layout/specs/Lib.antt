pub mod Written
pub mod Packed
pub mod Seam
pub mod Cost
