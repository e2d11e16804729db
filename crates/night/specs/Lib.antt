pub mod Record
pub mod List
pub mod Inner
