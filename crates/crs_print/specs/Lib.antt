pub mod CanonicalText
pub mod Said
pub mod CanonicalLaws
