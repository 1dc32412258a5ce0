pub mod Staying
pub mod EmitSymbols
pub mod AlikeStrata
pub mod Parting
pub mod Rearranging
pub mod CitedWords
pub mod CitedModels
pub mod CitedLines
pub mod CitedMarks
pub mod CitedRefusals
pub mod CitedAudit
mod RearrangedRows
