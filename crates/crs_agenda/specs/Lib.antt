pub mod Pairs
pub mod Places
pub mod Schedule
pub mod Calendars
pub mod Freshness
