pub mod AccountLaws
