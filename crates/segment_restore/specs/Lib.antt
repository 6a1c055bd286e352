pub mod Based
pub mod Faults
pub mod Restored
