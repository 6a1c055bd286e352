pub mod Failing
pub mod Fronts
pub mod Keeping
pub mod LastBackups
pub mod Pieces
pub mod StandingRuns
pub mod Whole
