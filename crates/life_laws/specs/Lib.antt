pub mod Calm
pub mod Commands
pub mod CalmLaw
pub mod Stops
pub mod Opening
