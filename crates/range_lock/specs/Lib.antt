pub mod Lock
pub mod Order
pub mod Nearest
pub mod Among
pub mod Point
pub mod Tables
pub mod Held
pub mod Cut
