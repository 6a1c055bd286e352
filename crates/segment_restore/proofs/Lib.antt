pub mod Chains
pub mod Owned
pub mod Segments
pub mod Written
