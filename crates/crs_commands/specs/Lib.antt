pub mod Logs
pub mod Prepared
pub mod RunOutcomes
pub mod Listings
pub mod Imports
pub mod AuditOutcomes
pub mod Drills
pub mod Summing
