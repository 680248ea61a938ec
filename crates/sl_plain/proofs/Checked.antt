pub mod Distinct
pub mod Declared
pub mod Scopes
pub mod Seen
pub mod Entries
pub mod Shallow
