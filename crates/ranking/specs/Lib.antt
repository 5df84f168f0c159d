pub mod Conditions
pub mod Lists
pub mod Orders
pub mod Refusals
pub mod Ranks
pub mod Permutations
pub mod ListLaws
