pub mod Kept
pub mod Groups
