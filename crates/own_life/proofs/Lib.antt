pub mod Called
pub mod Sequences
pub mod Committed
pub mod Going
pub mod Named
pub mod Numbered
pub mod Surveyed
mod Begun
mod Helped
