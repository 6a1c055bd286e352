pub mod Chunks
pub mod Numbers
