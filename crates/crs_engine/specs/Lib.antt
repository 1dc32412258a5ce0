pub mod Engines
pub mod Concerns
pub mod EngineRefusals
pub mod Marks
pub mod Moves
