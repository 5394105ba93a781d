-- The exam site's number, read back.
pub mod Distinct
