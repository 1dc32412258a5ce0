pub mod Judged
pub mod Begun
pub mod Watching
pub mod Known
pub mod Counts
