-- The words that are laid down for a controller's ticks; traces as pairs at their clocks; lists of calls, and demand 3.
pub mod Laid
pub mod Traces
pub mod Runs
pub mod Demand3
