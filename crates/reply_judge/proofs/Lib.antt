pub mod Keeping
pub mod Scanning
