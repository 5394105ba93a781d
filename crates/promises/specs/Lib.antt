-- The file to read first.
pub mod Promises
