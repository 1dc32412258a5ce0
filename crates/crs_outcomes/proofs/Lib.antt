pub mod Refused
pub mod Preparing
pub mod Loads
