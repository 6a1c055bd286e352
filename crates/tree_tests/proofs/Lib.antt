pub mod MayOf
