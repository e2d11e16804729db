-- Cuts, Block and Plan are what a reader has to believe. The others only serve contracts of private functions.
pub mod Cuts
pub mod Block
pub mod Plan
pub mod Cheapest
pub mod Look
pub mod Walk
pub mod Runs
pub mod Stretches
