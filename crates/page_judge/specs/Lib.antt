pub mod Images
pub mod Names
pub mod Splitting
