-- A level as a number.
pub mod Levels
