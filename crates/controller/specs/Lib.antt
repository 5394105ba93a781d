-- What the code's contracts say of a controller's states and calls (RULES 8).
pub mod States
pub mod Steps
