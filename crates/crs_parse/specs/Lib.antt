pub mod Faults
pub mod SeenReading
pub mod Adds
pub mod Overfull
pub mod ModelSteps
pub mod Grows
pub mod Meant
pub mod HeldStatements
