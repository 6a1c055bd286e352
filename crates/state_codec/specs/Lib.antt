pub mod Gives
pub mod State
