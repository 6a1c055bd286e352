pub mod Owners
pub mod Undoes
pub mod Rolls
pub mod Endings
