pub mod Asks
pub mod Entered
pub mod Alike
