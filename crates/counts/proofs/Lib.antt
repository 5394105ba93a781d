-- The counts by turns are those of the history; and the loop over the turns.
pub mod ByTurns
pub mod Tallying
