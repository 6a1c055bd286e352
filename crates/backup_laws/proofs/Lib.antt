mod Copies
pub mod NamedBackups
