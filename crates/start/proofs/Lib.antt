pub mod Bridge
pub mod Turning
