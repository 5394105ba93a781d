-- What the contracts say of a clock and the events before it.
pub mod Consistency
