pub mod Faults
pub mod Last
pub mod Named
pub mod Runs
