pub mod Follows
pub mod MayPut
pub mod Owners
pub mod Quiet
pub mod Writes
