pub mod Archiving
pub mod Enough
pub mod Safe
