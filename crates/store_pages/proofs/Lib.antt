pub mod Backed
pub mod Redone
pub mod Restored
pub mod Written
