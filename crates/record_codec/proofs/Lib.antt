pub mod KindFields
pub mod ListKinds
pub mod StateKinds
pub mod AnyKind
mod Told
