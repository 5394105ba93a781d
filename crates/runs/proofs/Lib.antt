-- What runs are, by the word and by any number of words.
pub mod Lead
pub mod Marked
