pub mod Changes
pub mod Serving
pub mod Entering
pub mod Storing
pub mod Losing
pub mod Coming
pub mod WrittenOut
