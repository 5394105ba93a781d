-- The text of a line that is written piece by piece.
pub mod Written
