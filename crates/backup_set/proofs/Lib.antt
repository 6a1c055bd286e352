pub mod Heads
pub mod Sizes
pub mod Images
pub mod Walking
pub mod Answering
pub mod Placed
