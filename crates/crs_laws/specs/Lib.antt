pub mod Staying
pub mod Rearranged
pub mod CitedTexts
