pub mod Causes
pub mod Fits
