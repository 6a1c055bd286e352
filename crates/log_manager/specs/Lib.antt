pub mod Devices
pub mod Groups
pub mod LastRead
pub mod Managed
pub mod Payload
pub mod Records
