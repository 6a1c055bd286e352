mod Reading
mod OpenBlocks
mod Standing
pub mod Going
pub mod Listed
pub mod Payloads
