pub mod Counting
pub mod Seen
