pub mod Records
pub mod SeenTables
pub mod TableReading
pub mod Tables
pub mod Lengths
pub mod TableSteps
pub mod TableLaws
pub mod TableRefusals
