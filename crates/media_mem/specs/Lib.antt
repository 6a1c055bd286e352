pub mod Ends
pub mod History
pub mod Past
pub mod Reach
pub mod Shelf
pub mod Slots
pub mod Streams
