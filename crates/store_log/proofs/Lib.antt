mod Gates
pub mod Known
mod Lists
mod Openings
mod Whole
