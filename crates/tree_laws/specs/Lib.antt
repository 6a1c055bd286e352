pub mod Tree
pub mod Descent
pub mod Scan
pub mod Entering
