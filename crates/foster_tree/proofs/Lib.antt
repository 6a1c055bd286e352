pub mod Made
pub mod Checked
pub mod Ways
pub mod Desks
pub mod Causing
pub mod Scanning
pub mod Gathering
pub mod Between
