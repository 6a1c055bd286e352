pub mod Named
pub mod Drafts
