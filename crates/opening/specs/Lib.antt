pub mod Begins
pub mod Bytes
