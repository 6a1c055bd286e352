pub mod ChangesOf
