pub mod Hooking
pub mod Next
pub mod Moved
pub mod DuePairs
pub mod Zipped
pub mod Fitting
pub mod Linked
