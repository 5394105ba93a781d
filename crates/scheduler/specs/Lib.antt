-- What the code's contracts say of the pairs that a controller opens.
pub mod Pairs
