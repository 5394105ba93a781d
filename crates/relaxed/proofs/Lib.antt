-- The theorems of specs/Dependence (Monotone, by what Kept has of each rule) and of specs/Relaxed (Relaxed, by the rows of two sheets, and
-- by how long an accepted trace is).
pub mod Kept
pub mod Monotone
pub mod Rows
pub mod Lengths
pub mod Relaxed
