pub mod Tables
pub mod Bases
pub mod Hands
pub mod Repairs
pub mod Brings
pub mod Writes
