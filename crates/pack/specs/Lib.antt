-- Promise is what a reader has to believe. Inner only serves contracts of private functions.
pub mod Promise
pub mod Inner
