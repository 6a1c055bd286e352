pub mod Contents
pub mod Answers
