-- Read Excluded last: it has the theorem. The others go through the records of specs/Excluded.
pub mod Answers
pub mod Calls
pub mod Cursors
pub mod Controllers
pub mod Examiners
pub mod Tallies
pub mod Walks
pub mod Excluded
