pub mod Table
pub mod Ready
pub mod Listing
pub mod Noted
pub mod GoingOn
