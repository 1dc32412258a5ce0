pub mod MadeLogs
pub mod Unrefused
pub mod Wanting
