pub mod Pigeons
pub mod PlanLaws
pub mod RowOrder
pub mod WallLaws
