pub mod Adding
pub mod KeptBlocks
pub mod Leaving
