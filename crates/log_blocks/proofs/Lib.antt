pub mod BlockLists
pub mod Durable
mod Excludes
mod FirstGate
mod Flushing
mod Gates
pub mod Lasts
mod Laying
mod Looking
pub mod Moments
mod Nodes
mod Numbering
mod Parsing
pub mod Progressing
mod Ready
mod Unique
pub mod Walking
pub mod Whole
