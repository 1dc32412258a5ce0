pub mod Leads
pub mod Buckets
pub mod Turns
pub mod Least
pub mod Changes
pub mod Kept
