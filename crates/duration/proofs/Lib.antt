-- The three ways that the call goes (Ways), and the theorem of specs/Exact.
pub mod Ways
pub mod Exact
