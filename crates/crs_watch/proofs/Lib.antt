mod Armed
mod Terms
mod Verdicts
mod Counting
mod Holds
mod Starts
pub mod Telling
