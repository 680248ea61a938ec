pub mod Layers
pub mod Variants
pub mod Counted
pub mod Added
pub mod Keeps
pub mod Meaning
pub mod Promised
