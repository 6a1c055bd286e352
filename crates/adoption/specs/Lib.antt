pub mod Adoptions
pub mod Descents
