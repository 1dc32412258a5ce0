mod Lone
mod Merging
mod Counting
mod TwinRecognised
mod Agreeing
pub mod Horizons
mod Parting
pub mod Stepping
pub mod Standing
