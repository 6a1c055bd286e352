pub mod Names
pub mod Commands
pub mod Alone
pub mod Right
