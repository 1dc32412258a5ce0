pub mod Texts
pub mod Written
pub mod Tallies
pub mod Notices
pub mod Session
pub mod Marked
pub mod Taking
pub mod Laws
