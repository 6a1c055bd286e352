pub mod Archives
pub mod Going
