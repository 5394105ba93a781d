-- What the contracts of this crate say.
pub mod Numbers
pub mod Walks
pub mod Stored
pub mod Shown
pub mod Timed
