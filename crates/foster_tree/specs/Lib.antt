pub mod Nows
pub mod Ways
pub mod Scans
