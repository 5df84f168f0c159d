pub mod CauseLaws
pub mod Sweeping
