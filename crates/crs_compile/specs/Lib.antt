pub mod Compiled
pub mod Minimal
pub mod PlanLaws
