-- Appending to a line, and the digits of a number.
pub mod Appended
pub mod Digits
