-- The theorem of specs/Distinct.
pub mod Distinct
