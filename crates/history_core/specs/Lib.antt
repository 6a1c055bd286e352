pub mod Judging
pub mod Locked
