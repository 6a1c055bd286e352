pub mod Asked
pub mod Began
pub mod Committed
pub mod Aborted
pub mod Sessions
pub mod Naming
pub mod Looked
pub mod Stepped
