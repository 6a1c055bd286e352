pub mod Copies
pub mod Backups
pub mod Going
