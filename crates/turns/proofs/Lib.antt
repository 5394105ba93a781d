-- One turn by its cases; every turn; and what an answer says, for loops.
pub mod OneTurn
pub mod EveryTurn
pub mod Answered
