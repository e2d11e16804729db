pub mod LargestLaws
