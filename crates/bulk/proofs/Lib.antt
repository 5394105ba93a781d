-- Turns of a walk.
pub mod Turns
