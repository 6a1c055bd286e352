pub mod SoFar
pub mod Turns
pub mod Steps
