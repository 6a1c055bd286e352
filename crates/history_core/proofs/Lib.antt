pub mod Searching
pub mod Deciding
pub mod Going
pub mod Opened
pub mod Entered
