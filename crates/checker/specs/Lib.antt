-- What the contracts say of the checker's states (Steps), and what joins these to the published rules (Refinement).
pub mod Steps
pub mod Refinement
