pub use Rattle.crs_outcomes.specs.Status
pub use Rattle.crs_outcomes.specs.Most
pub mod CommandOutcomes
