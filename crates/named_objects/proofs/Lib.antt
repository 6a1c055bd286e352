pub mod SameNames
pub mod Drafting
pub mod Keeping
pub mod EnteredNamings
pub mod MadeObjects
pub mod Places
