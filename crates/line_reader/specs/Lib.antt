pub mod Built
pub mod Lines
