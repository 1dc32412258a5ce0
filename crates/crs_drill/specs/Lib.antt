pub mod Drill
pub mod DrillModels
