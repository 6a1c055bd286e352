pub mod Asked
pub mod Settled
pub mod Purges
pub mod Splits
