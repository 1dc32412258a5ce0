pub mod Frames
pub mod TableTexts
