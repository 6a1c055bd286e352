pub mod Composing
pub mod Owning
pub mod LastWrites
pub mod Failing
pub mod Ends
pub mod Over
pub mod Steps
