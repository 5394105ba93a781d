-- What the crates above share of rules.
pub mod Numbered
