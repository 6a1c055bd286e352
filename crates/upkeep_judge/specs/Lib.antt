pub mod Backups
pub mod Runs
