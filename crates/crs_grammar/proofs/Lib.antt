pub mod Gives
pub mod GivesAnchors
pub mod GivesStatements
pub mod Takes
pub mod TakesStatements
pub mod CanonTokens
pub mod CanonRows
