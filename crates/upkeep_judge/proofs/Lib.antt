pub mod Keeping
pub mod Pages
pub mod Spans
