pub mod Checkpoints
pub mod Losses
pub mod Marks
pub mod Steps
