pub mod Ways
pub mod Least
pub mod Lateness
pub mod Tables
