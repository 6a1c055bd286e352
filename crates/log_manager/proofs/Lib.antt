pub mod Blocks
pub mod Counting
pub mod Finding
mod Grouping
pub mod Held
pub mod Joining
pub mod Logs
pub mod Taking
