-- The refinement of the published rules by the checker. Read Refinement last: it has the theorem.
pub mod Before
pub mod Refinement
