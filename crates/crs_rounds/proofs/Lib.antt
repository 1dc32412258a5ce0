pub mod Answered
pub mod Ordering
pub mod FeedOrder
pub mod PairTexts
pub mod MergedRises
pub mod MergedSteps
pub mod MergedEvents
pub mod SourcePlaces
pub mod FeedReading
pub mod FeedTurns
pub mod FeedSteps
pub mod RoundEnds
pub mod Openings
pub mod PreparingMerged
pub mod FeedRuns
mod FeedRows
