pub mod Losers
pub mod Late
pub mod Ways
