pub mod Indexes
pub mod KeyNumbers
pub mod Rows
