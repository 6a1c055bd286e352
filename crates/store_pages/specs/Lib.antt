pub mod Backed
pub mod Pages
