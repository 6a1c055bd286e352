pub mod Alone
pub mod Names
pub mod Listed
pub mod Undone
pub mod Sessions
pub mod Right
pub mod Living
