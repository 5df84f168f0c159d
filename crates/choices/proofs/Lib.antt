pub mod Jumping
pub mod Levels
pub mod Narrowing
