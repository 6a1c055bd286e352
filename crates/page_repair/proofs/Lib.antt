pub mod Sharing
pub mod Staying
pub mod Following
pub mod Redoing
pub mod RebuiltPages
pub mod Sparing
