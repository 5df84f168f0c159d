pub mod Acts
pub mod Plans
pub mod Refusals
pub mod Rules
pub mod Theorems
