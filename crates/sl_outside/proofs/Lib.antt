pub mod Listed
pub mod Streams
pub mod Printing
