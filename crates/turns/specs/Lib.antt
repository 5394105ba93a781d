-- The answer of one turn, and what is proved of every turn.
pub mod OneTurn
pub mod EveryTurn
