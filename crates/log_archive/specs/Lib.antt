pub mod Items
pub mod Run
pub mod Reading
pub mod Shelves
pub mod Reads
pub mod Answers
pub mod Merging
