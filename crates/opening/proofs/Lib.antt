mod Begins
mod Bytes
