pub mod After
pub mod Lists
pub mod Members
pub mod TwinLines
