pub mod Unset
pub mod UpTo
pub mod Choosing
pub mod KnownSymbols
pub mod Awaiting
