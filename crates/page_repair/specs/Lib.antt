pub mod Chains
pub mod Images
pub mod Supplies
pub mod Rebuild
