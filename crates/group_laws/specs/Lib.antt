pub mod Puts
pub mod Stays
