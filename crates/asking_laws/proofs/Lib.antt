pub mod Asks
pub mod Entered
pub mod Moments
pub mod Alike
