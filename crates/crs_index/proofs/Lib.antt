pub mod Keys
pub mod Tables
pub mod BucketRows
pub mod States
pub mod Places
