-- What the contracts of this crate say; OneTurn is for the loop, which goes turn by turn.
pub mod Counts
pub mod OneTurn
