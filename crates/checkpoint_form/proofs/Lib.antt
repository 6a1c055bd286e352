mod Along
mod Items
mod Sizes
