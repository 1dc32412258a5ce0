pub mod Parts
pub mod Records
pub mod TakenRows
pub mod Fields
pub mod Logs
pub mod Sizes
