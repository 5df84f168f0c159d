pub mod Arrays
pub mod NetLaws
pub mod WayLaws
