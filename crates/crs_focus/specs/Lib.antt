pub mod Current
pub mod Candidacy
pub mod PlanLevels
