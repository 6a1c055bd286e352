pub mod Cuts
pub mod Machine
pub mod Causes
pub mod Vault
pub mod Usage
pub mod Clause
pub mod NextCall
pub mod Devices
