pub mod Networks
pub mod Starts
