pub mod Accepted
pub mod Summing
pub mod LogReading
pub mod Follows
pub mod Runs
pub mod AuditRuns
pub mod AuditPlans
pub mod Completes
pub mod Drilled
pub mod Beginning
pub mod CheckedLoads
pub mod Tables
pub mod Listed
mod Rows
