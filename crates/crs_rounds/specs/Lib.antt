pub mod FeedRounds
pub mod PairTexts
pub mod MergedSession
pub mod FeedOutcomes
pub mod Sources
pub mod Opening
pub mod PreparedMerged
