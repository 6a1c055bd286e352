pub mod Batch
pub mod Log
pub mod LogState
pub mod Opening
pub mod Waiting
