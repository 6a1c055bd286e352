pub mod Owners
pub mod Barring
