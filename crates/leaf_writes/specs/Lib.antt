pub mod Changes
pub mod MayChange
pub mod Halves
pub mod KeyWrites
pub mod Owners
