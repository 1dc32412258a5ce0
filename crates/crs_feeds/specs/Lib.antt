pub mod Merged
pub mod States
pub mod Standing
pub mod Laws
