pub mod Calm
pub mod Desk
pub mod FailingRead
pub mod File
pub mod Memory
pub mod ReadAll
pub mod FailingCalls
