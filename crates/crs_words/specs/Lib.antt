pub mod Apps
pub mod Kinds
pub mod Commands
