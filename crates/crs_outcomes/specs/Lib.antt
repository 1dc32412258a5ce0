pub mod Status
pub mod Most
pub mod Writing
pub mod ModelTexts
pub mod ReadPlans
pub mod Inputs
pub mod Loads
