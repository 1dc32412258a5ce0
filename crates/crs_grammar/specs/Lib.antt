pub mod GrammarTokens
pub mod Statements
pub mod SeenStatements
pub mod Forms
pub mod TokenReading
pub mod Gives
pub mod Canon
pub mod GrammarLaws
