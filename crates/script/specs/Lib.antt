pub mod Line
pub mod Name
pub mod Token
pub mod Word
