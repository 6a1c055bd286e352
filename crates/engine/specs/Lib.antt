pub mod Sittings
pub mod Requests
pub mod Beside
pub mod Answers
pub mod Saying
pub mod Completes
pub mod Writes
pub mod Applies
