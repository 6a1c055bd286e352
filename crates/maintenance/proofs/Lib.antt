mod Checkpoints
mod Losses
mod Marks
pub mod Steps
