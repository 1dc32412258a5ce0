pub mod Results
pub mod ShortLines
pub mod Grown
pub mod Dates
pub mod Clocks
pub mod Items
