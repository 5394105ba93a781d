-- The list of words, and the word at an index of it.
pub mod Listed
