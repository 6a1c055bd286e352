pub mod Backup
pub mod Reading
pub mod Answers
