pub mod Helps
pub mod Kept
pub mod State
