pub mod Lines
pub mod MadeLines
pub mod Drawn
