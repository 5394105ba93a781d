-- The pins of a word, pairs of words by kind, and the address on a first word.
pub mod Pins
pub mod Pairs
pub mod Address
