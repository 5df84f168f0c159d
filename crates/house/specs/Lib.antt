pub mod Loads
pub mod Questions
pub mod Refusals
pub mod Sums
