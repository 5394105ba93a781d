-- The theorem of specs/Promises.
pub mod Promises
