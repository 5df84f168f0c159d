pub mod Groups
pub mod PlaceLaws
