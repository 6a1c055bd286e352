pub mod Chaining
pub mod Sizes
pub mod Spelled
pub mod Pairs
