-- Facts on outcomes that no single function's proof owns.
pub mod Outcomes
