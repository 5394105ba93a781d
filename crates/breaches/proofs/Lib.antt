-- What the proofs of the functions have in common.
pub mod ByKind
pub mod FirstOf
