pub mod Along
pub mod ByKind
pub mod Pages
