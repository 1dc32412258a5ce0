pub mod OutputLines
pub mod Listeners
pub mod Printed
pub mod Summaries
