pub mod Alone
pub mod Composing
pub mod Gaining
pub mod Staying
pub mod Telling
